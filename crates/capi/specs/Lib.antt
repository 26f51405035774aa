pub mod LeastNorm
pub mod Reports
pub mod Solves
pub mod Tallies
