pub mod Back
pub mod Answering
pub mod Running
pub mod RangedRunning
pub mod Exchanging
pub mod Enough
pub mod OnWords
pub mod Turning
