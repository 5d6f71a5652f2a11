pub mod Meta
pub mod Status
pub mod Policy
