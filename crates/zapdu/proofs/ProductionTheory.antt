-- Productions that are read in parts.
pub mod SearchQueries
