pub mod ListLaws
pub mod Refusals
pub mod Sizes
pub mod Unique
