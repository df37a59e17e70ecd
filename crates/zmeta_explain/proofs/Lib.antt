pub mod LineSteps
pub mod OctetParts
pub mod PlaceLemmas
pub mod Printable
pub mod SafeLines
pub mod SafeWords
