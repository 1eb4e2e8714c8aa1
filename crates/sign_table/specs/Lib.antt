pub mod SignTable
pub mod Walk
pub mod Clauses
pub mod Made
