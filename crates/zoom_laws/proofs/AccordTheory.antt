pub mod Members
pub mod FittingReplies
pub mod Owing
pub mod Calls
pub mod Requests
pub mod Conversing
pub mod Accord
