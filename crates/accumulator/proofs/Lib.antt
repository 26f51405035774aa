pub mod Values
pub mod Patterns
pub mod Shifts
pub mod Signs
pub mod Tops
pub mod Calls
pub mod Exact
pub mod Together
