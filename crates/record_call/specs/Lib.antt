pub mod Record
pub mod Promise
pub mod Decoded
pub mod Base
