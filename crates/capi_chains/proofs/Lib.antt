pub mod ChainWriter
pub mod Chains
