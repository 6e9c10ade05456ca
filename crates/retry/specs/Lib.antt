pub mod Answers
pub mod Rounds
pub mod Promises
