pub mod BlockLemmas
pub mod AlternativeLemmas
