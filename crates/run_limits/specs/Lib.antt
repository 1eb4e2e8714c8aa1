pub mod Rank
pub mod Momentum
pub mod Start
pub mod Draws
