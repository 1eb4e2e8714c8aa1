pub mod Accepting
pub mod Cursor
pub mod Quotients
pub mod Theorems
pub mod Examples
