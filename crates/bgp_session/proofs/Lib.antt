pub mod BegunLemmas
pub mod FrameLemmas
pub mod JoinLemmas
pub mod LawLemmas
pub mod LifeLemmas
pub mod SessionLemmas
pub mod StepLemmas
pub mod StreamLemmas
