pub mod Within
pub mod Search
pub mod Choices
pub mod Clauses
