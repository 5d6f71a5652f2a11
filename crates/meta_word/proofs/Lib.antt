pub mod BitLemmas
pub mod MetaLemmas
pub mod StatusLemmas
