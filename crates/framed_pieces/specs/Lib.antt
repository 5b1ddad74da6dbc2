pub mod Begun
pub mod Framing
pub mod Listening
pub mod Stream
