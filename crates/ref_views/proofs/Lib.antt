pub mod Addresses
pub mod Attempted
pub mod Bodies
pub mod Calling
pub mod Holding
pub mod LawfulCells
pub mod OneOperation
