pub mod Serving
pub mod Pairs
pub mod Ending
pub mod Hosts
pub mod Replayed
pub mod TellingTheory
pub mod WakingTheory
