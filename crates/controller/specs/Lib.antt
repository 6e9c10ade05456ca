pub mod Answers
pub mod Base
pub mod Builder
pub mod Reader
pub mod Sure
pub mod Turns
