pub mod Columns
pub mod Gradient
