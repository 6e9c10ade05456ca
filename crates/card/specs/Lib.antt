pub mod Answers
pub mod Calls
pub mod Card
pub mod Exchange
pub mod Release
pub mod Run
pub mod State
pub mod Whole
