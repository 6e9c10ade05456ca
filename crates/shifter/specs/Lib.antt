pub mod Answers
pub mod Shifter
