pub mod Runs
pub mod Effects
pub mod Alone
pub mod Known
pub mod Words
pub mod Plain
pub mod World
pub mod Facts
