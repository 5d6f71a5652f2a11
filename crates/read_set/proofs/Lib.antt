pub mod Among
pub mod Apart
