pub mod Bits
pub mod Buffers
pub mod Lines
