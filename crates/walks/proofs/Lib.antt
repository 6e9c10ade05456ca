pub mod Fields
pub mod Lending
pub mod Lists
pub mod Locals
pub mod Plain
pub mod Proved
pub mod Slices
pub mod Walk
