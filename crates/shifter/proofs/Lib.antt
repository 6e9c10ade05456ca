pub mod Clears
pub mod Midway
pub mod Refusals
pub mod Sixteen
pub mod Unique
