pub mod Work
pub mod Made
