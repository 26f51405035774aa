pub mod Totals
pub mod Words
pub mod Orders
