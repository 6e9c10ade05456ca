pub mod Twice
pub mod Reports
pub mod Messages
pub mod Rounds
pub mod Write
pub mod Theorem
pub mod Examples
