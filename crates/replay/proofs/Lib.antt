pub mod Going
pub mod Refusals
pub mod Unique
pub mod Words
