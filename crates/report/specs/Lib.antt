pub mod Joins
pub mod Examples
