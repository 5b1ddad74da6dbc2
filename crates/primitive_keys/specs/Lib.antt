pub mod Facts
pub mod Keys
pub mod Routing
pub mod Values
