pub mod Pinned
pub mod Refusals
pub mod Run
pub mod Unique
