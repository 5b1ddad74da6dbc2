pub mod Fields
pub mod Layout
pub mod Rates
pub mod Records
pub mod Saying
pub mod Sets
pub mod Spellings
