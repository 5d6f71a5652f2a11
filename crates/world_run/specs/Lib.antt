pub mod Going
pub mod Places
pub mod Run
pub mod Simulation
