pub mod Size
pub mod Signs
pub mod Packed
pub mod Distance
