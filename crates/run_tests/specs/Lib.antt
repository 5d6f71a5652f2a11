pub mod Deposits
pub mod Tables
