pub mod Beside
pub mod Chains
pub mod Finding
pub mod Room
