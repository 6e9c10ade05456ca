pub mod Refusal
pub mod Refusals
pub mod Rules
