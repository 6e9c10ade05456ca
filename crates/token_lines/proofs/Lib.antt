pub mod Columns
pub mod Refusals
pub mod Unique
