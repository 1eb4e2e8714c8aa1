pub mod Loop
pub mod Checking
