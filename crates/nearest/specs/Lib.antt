pub mod ToNearest
pub mod Examples
