pub mod Laws
pub mod Records
pub mod Refusals
pub mod Unique
