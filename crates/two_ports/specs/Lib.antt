pub mod Answers
pub mod OnePort
pub mod Ports
pub mod Run
pub mod State
