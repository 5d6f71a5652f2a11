pub mod Backs
pub mod Buffered
pub mod Commits
pub mod Noted
pub mod Owned
pub mod Registers
