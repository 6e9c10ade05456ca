pub mod AnswerLaws
pub mod Known
pub mod MessageLaws
pub mod Refusals
pub mod Unique
