pub mod Bytes
pub mod Steps
pub mod Write
pub mod Private
pub mod RoundTrip
pub mod Examples
