pub mod PieceLemmas
pub mod RecordLemmas
pub mod SampleLemmas
pub mod Accepted
