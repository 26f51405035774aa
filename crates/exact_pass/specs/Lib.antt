pub mod Below
pub mod Ray
pub mod Walk
pub mod Pass
pub mod Promise
pub mod Private
pub mod WalkExamples
