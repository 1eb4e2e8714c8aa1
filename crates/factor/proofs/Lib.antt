pub mod ByColumns
pub mod Shaping
pub mod Updates
pub mod Written
