pub mod Digits
pub mod Gains
pub mod Standing
pub mod Founds
pub mod Placing
pub mod Terms
pub mod Numbers
pub mod Examples
