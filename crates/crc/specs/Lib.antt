pub mod Crc
pub mod Errors
