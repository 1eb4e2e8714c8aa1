pub mod Numbers
pub mod Search
pub mod Near
pub mod Call
