pub mod Heads
pub mod Given
pub mod Replays
pub mod Dialogue
pub mod Ways
pub mod Messages
pub mod Entries
pub mod Known
