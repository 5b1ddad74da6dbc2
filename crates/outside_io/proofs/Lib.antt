pub mod Octets
pub mod Causes
pub mod NamedLemmas
pub mod SpanLemmas
pub mod CallLemmas
