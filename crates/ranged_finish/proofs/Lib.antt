pub mod Mono
mod Found
pub mod Halls
pub mod Deciding
pub mod Ranging
pub mod Theorems
