pub mod ContentsLemmas
pub mod Parts
pub mod ReportLemmas
pub mod RolledLemmas
pub mod RowLemmas
pub mod WordLemmas
pub mod Written
