pub mod Asked
pub mod Closing
pub mod Committing
pub mod Finishing
pub mod Reading
pub mod Steps
pub mod Writing
