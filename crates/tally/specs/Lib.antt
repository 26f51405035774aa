pub mod Tally
pub mod Examples
