pub mod Writes
pub mod Nested
pub mod Notes
pub mod Fronts
pub mod Counting
pub mod GuardedCopying
