pub mod Indexed
pub mod Marks
pub mod Places
pub mod Restored
pub mod Undoing
