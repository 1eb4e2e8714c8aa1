pub mod OfCall
pub mod Later
pub mod Starts
pub mod Examples
