pub mod Turns
pub mod Rows
pub mod Lists
pub mod Sum
pub mod Refusal
