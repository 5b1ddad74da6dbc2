pub mod Version5
pub mod Version9
