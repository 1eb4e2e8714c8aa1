pub mod Columns
pub mod Multiply
pub mod Norms
pub mod Shapes
pub mod Vectors
