pub mod Versions
pub mod Fields
pub mod Number
pub mod Reading
pub mod Kinds
pub mod Values
pub mod Base
