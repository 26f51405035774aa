pub mod Laws
pub mod Steps
pub mod Blocks
pub mod Rows
pub mod Runs
pub mod Single
pub mod Pairs
pub mod Starts
