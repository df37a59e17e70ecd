pub mod Details
pub mod Laws
