pub mod Answers
pub mod Counting
pub mod Datagrams
pub mod History
