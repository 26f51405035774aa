pub mod Numbers
pub mod Cases
pub mod Marked
pub mod Further
pub mod Refusals
pub mod Errors
pub mod Stopped
pub mod Triangles
