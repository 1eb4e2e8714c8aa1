pub mod Indices
pub mod Submatrix
pub mod Scatter
pub mod Lift
