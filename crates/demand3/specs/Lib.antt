pub mod Claims
pub mod Demand
pub mod Called
pub mod CalledFromC
