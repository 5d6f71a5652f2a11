pub mod Machine
pub mod Marked
pub mod Past
pub mod Running
