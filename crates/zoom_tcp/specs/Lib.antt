pub mod Asking
pub mod Clients
pub mod Families
pub mod Loopback
pub mod Serving
pub mod Telling
pub mod Waking
