pub mod Sweep
pub mod Solve
pub mod Private
