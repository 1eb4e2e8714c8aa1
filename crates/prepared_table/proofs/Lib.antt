pub mod Examples
pub mod Preparing
pub mod Starting
pub mod MadeTables
