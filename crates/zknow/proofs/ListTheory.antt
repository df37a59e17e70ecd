-- What is printed of the tables is the list of their facts.
pub mod KnownAt
pub mod Ascending
pub mod BlockLines
pub mod ListKeys
pub mod SortedKeys
pub mod TableKeys
pub mod Places
pub mod Conflicts
pub mod Failures
