pub mod LocalSearch
pub mod Level
pub mod SignSearch
pub mod Children
pub mod Enters
