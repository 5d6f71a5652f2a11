pub mod Statuses
pub mod Causes
pub mod Sums
pub mod Ready
