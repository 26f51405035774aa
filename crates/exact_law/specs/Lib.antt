pub mod Law
pub mod Examples
