-- Tables hold what was put into them, and list it in fact order.
pub mod Searches
pub mod Unions
pub mod Distincts
pub mod Entries
pub mod Changes
pub mod TableMerges
pub mod ByTable
pub mod InSections
pub mod FactsInOrder
pub mod KnownFacts
pub mod AtKeys
