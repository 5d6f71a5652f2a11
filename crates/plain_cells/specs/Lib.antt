pub mod Book
pub mod Levels
pub mod Facts
