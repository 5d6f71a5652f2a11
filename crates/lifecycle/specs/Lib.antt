pub mod NextRun
pub mod Registered
pub mod StageRuns
pub mod Walk
