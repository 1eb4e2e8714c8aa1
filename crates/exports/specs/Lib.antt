pub mod Words
pub mod Answers
pub mod RangedWords
pub mod Sizes
pub mod Exchange
pub mod WordChain
pub mod TurnWords
