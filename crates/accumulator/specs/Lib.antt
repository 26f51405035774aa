pub mod Accumulators
pub mod Steps
pub mod Examples
pub mod Meaning
pub mod Joins
