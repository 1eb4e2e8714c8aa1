-- what holds of the search
pub mod Lawful
pub mod Theorems
pub mod HallTheorems
pub mod Examples
-- the code's loops
pub mod ChangeLaws
pub mod TurnLaws
pub mod NearLaws
pub mod ExpandLaws
pub mod MoveLaws
pub mod Searches
pub mod PackedSearch
