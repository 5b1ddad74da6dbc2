pub mod CloseLemmas
pub mod EndLemmas
pub mod JobLemmas
pub mod OpenLemmas
pub mod OutcomeLemmas
pub mod ReadingLemmas
pub mod RunLemmas
pub mod TopLemmas
