pub mod Sums
pub mod Matrix
