pub mod Ranked
pub mod Holds
pub mod Deciding
pub mod Answered
pub mod Refused
