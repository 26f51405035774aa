pub mod Writing
pub mod Pages
pub mod Output
pub mod Examples
