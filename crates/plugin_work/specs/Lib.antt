pub mod Output
pub mod Plugins
pub mod Sinks
