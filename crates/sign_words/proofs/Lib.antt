pub mod Sizes
pub mod Digits
pub mod PackedLaws
pub mod DistanceLaws
pub mod ApartLaws
