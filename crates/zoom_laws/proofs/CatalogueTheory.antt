pub mod Owing
pub mod Sent
pub mod Standings
pub mod Members
pub mod Presents
pub mod OperationReplies
pub mod CompleteFacts
pub mod Skipped
