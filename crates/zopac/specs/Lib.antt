pub mod Circulations
pub mod Copies
pub mod HoldingKinds
pub mod Holdings
pub mod Joined
pub mod Opacs
pub mod Shelvings
pub mod Volumes
