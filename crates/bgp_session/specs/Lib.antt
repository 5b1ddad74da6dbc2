pub mod Laws
pub mod Lives
pub mod Moments
pub mod Sessions
pub mod Steps
pub mod Stream
