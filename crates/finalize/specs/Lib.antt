pub mod Finalize
pub mod Demand3
pub mod Clauses
