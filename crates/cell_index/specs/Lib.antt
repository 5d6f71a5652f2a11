pub mod Cells
pub mod Chains
