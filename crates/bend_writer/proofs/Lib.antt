pub mod Laying
pub mod Chained
pub mod Rules
pub mod Passes
pub mod Gathered
pub mod Within
pub mod StepBack
pub mod RoundTrip
