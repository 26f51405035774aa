pub mod Reflector
pub mod LeastNorm
pub mod Starts
pub mod Promise
pub mod Blocks
pub mod Examples
pub mod Private
