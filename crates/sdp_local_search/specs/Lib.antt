pub mod BeamSearch
pub mod Call
