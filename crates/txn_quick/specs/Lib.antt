pub mod Committing
pub mod Gone
pub mod Reads
pub mod Sought
pub mod Writing
