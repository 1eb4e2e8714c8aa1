pub mod Prepared
pub mod Written
pub mod Opening
pub mod Finishing
