pub mod Buffers
pub mod Digits
pub mod Lines
pub mod Unique
