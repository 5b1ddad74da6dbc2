pub mod CsvLemmas
pub mod EventLemmas
pub mod JsonLemmas
pub mod LineLemmas
pub mod OrderLemmas
pub mod PlainLemmas
pub mod RowLemmas
