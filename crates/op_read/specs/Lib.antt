pub mod Read
pub mod ReadParts
pub mod Extend
