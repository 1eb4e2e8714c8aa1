-- ℤ: order, sums, products; what an i64 holds
pub mod Integer
pub mod Sums
pub mod Totals
-- loops and the lists they make
pub mod UpTo
pub mod MapFirst
pub mod Parts
pub mod Made
pub mod Ranged
-- refusals
pub mod Any
pub mod Refusal
pub mod Following
