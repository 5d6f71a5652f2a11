pub mod Cases
pub mod SingleWord
