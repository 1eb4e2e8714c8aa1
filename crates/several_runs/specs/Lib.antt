pub mod Turn
pub mod Shared
pub mod TurnedDown
pub mod Lent
