pub mod Answers
pub mod Loader
pub mod Steps
