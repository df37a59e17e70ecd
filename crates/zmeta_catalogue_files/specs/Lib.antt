pub mod Paths
pub mod Options
pub mod Unions
pub mod Refusals
pub mod Lines
pub mod Listing
pub mod Conversions
