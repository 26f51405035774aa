pub mod Mirrored
pub mod Refusing
pub mod Scratch
