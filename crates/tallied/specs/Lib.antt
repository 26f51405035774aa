pub mod Joining
pub mod Private
