pub mod Answers
pub mod Crossing
pub mod Steps
