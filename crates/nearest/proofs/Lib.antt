pub mod Words
pub mod Sizes
pub mod Halves
pub mod Units
pub mod Patterns
pub mod Scans
pub mod Negation
pub mod Steps
