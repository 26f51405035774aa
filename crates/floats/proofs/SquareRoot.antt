-- The laws of the square root, from whole numbers up.
pub mod Whole
pub mod Halves
pub mod Patterns
pub mod Normal
pub mod Branches
pub mod Midpoint
pub mod Square
