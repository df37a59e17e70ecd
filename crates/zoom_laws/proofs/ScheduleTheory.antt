pub mod Complete
pub mod Replies
pub mod Openings
pub mod Sets
pub mod Same
pub mod Answered
pub mod Schedules
