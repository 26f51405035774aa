pub mod Exact
pub mod ExactNearest
