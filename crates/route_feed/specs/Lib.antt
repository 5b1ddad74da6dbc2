pub mod Events
pub mod Lives
pub mod Told
pub mod Steps
pub mod Routings
pub mod Laws
