pub mod Demand3
pub mod Assembled
pub mod Fronts
pub mod Examples
