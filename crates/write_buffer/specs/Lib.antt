pub mod Buffer
pub mod Indexed
