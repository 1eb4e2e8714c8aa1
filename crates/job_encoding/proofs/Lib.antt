pub mod Each
pub mod Back
pub mod Accepted
pub mod Unpinned
pub mod Limits
pub mod Examples
