pub mod Asked
pub mod Laws
pub mod Searches
pub mod Terms
pub mod Texts
pub mod Years
