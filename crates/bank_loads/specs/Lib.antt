pub mod Sizes
pub mod Counting
pub mod Heaps
pub mod Turns
