pub mod Answers
pub mod Kinds
pub mod Letters
pub mod Lines
pub mod Records
pub mod Text
