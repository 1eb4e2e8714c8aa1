pub mod Accepting
pub mod Theorems
pub mod Bounds
