pub mod Encode
pub mod Allowed
pub mod Alike
pub mod Examples
