pub mod Damaged
pub mod Line
pub mod Message
pub mod Refusals
pub mod Turns
pub mod Undamaged
pub mod Unique
