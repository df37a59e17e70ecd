-- Whatever a table of places says is read as it stands, and built as it stands.
pub mod Builds
pub mod Choices
pub mod Meanings
pub mod Readings
pub mod Tables
pub mod Withins
