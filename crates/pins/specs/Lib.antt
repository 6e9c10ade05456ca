pub mod Answers
pub mod AtPins
pub mod Pins
pub mod Run
