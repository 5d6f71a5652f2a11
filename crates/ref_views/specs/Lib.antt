pub mod Operating
pub mod Typed
pub mod Using
