pub mod AnyCommand
pub mod Delivery
pub mod Play
