pub mod Laws
pub mod Spoilt
