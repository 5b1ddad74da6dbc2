pub mod FitLemmas
pub mod LineLemmas
pub mod NumberLemmas
pub mod PluginLemmas
pub mod SeenLemmas
pub mod UsageLemmas
