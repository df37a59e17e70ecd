mod Asking
pub mod Apart
pub mod Beginning
pub mod Others
pub mod Troubles
pub mod Running
pub mod Listing
pub mod Stopping
pub mod Calling
pub mod Tracing
pub mod Unions
pub mod Planning
pub mod Replaying
pub mod Showing
pub mod Repeated
pub mod Reprinted
