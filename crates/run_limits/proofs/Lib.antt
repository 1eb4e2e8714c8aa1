pub mod Ranks
pub mod Starts
pub mod Counts
mod MomentumBits
