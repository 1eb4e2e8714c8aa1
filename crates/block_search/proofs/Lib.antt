pub mod Held
pub mod Named
pub mod Steps
pub mod Apart
pub mod Turns
pub mod Numbers
pub mod Examples
