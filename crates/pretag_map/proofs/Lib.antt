pub mod LabelLemmas
pub mod NetworkLemmas
