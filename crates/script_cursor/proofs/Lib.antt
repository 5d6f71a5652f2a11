pub mod ComesLemmas
pub mod LateLemmas
pub mod NextLemmas
pub mod Spoken
pub mod WorkLemmas
