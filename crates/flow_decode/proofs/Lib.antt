pub mod FirstMet
pub mod HistoryLemmas
