pub mod Records
pub mod Accepted
