pub mod Counted
pub mod Devices
pub mod Explained
pub mod Faults
pub mod Files
pub mod Input
pub mod Pieces
