pub mod Little
pub mod Trailer
pub mod Read
pub mod Chain
pub mod Private
pub mod Format
pub mod Examples
pub mod ChainExamples
