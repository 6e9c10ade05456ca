pub mod Answers
pub mod TokenLines
