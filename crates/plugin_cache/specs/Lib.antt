pub mod Slices
pub mod Sums
