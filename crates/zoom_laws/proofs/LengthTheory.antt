pub mod Sizes
pub mod Replies
pub mod Records
pub mod Errands
pub mod Associations
pub mod Lengths
