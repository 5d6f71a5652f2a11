pub mod Faults
pub mod MemSource
pub mod MemSink
pub mod StdSource
pub mod StdSink
pub mod Whole
