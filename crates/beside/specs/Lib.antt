pub mod Beside
pub mod Layers
pub mod RoundsBeside
