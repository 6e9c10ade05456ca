pub mod StateLaws
pub mod StepLaws
pub mod LoadLaws
pub mod Ranges
pub mod Refusals
pub mod Known
pub mod Unique
