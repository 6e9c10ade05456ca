pub mod Cases
pub mod Laws
pub mod OneAnswer
pub mod Tests
pub mod Unique
