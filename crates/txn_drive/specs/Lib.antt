pub mod Begun
pub mod Calls
pub mod Going
pub mod Moment
pub mod Opening
pub mod Paying
pub mod Standing
pub mod Stepping
