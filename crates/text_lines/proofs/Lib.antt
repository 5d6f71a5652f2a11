pub mod Lists
pub mod LineLemmas
pub mod PutLemmas
pub mod CutLemmas
pub mod NumberLemmas
