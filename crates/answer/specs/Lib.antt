pub mod Output
pub mod Examples
pub mod Private
