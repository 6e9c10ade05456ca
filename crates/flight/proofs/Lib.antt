pub mod Apart
pub mod Trip
pub mod Unique
