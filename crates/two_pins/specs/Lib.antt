pub mod Answers
pub mod OnePortPins
pub mod PortPins
pub mod Run
