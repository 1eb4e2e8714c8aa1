pub mod Accepting
pub mod Bounded
pub mod Finalized
pub mod Allowed
pub mod Assured
pub mod Refused
pub mod Answered
pub mod Lengths
pub mod Scheduled
pub mod Follows
pub mod Opening
pub mod OnLists
mod EachSweep
pub mod Counting
pub mod InTurn
pub mod Chains
pub mod Tails
pub mod Examples
