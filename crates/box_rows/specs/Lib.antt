pub mod Rows
pub mod Private
pub mod Lent
pub mod States
