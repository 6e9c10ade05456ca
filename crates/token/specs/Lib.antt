pub mod Answers
pub mod Command
pub mod Marks
pub mod OneFlip
pub mod Response
