pub mod OneText
pub mod WithinTypes
