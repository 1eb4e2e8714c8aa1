pub mod Blocks
pub mod Moved
pub mod Numbers
pub mod Clauses
pub mod Call
