pub mod Work
pub mod Sweep
pub mod Running
pub mod Found
