pub mod Chains
pub mod ChainWriter
