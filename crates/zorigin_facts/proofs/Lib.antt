pub mod Positions
pub mod KnownFacts
pub mod SpelledRecords
