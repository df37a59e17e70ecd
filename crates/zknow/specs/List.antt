-- The printed list, as a function of the facts.
pub mod Limited
pub mod Listing
pub mod ListLaws
