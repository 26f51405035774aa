pub mod Ops
pub mod Helpers
pub mod Sums
pub mod Sqrt
pub mod Nearest
pub mod Examples
pub mod Rough
pub mod Private
