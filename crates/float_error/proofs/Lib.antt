pub mod Errors
pub mod Rounded
pub mod Values
pub mod Bits
