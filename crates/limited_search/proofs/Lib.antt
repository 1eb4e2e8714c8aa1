pub mod Numbers
pub mod Starts
pub mod Nearness
pub mod Calls
pub mod Promised
pub mod Examples
