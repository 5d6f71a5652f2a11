pub mod Indexed
pub mod Reads
