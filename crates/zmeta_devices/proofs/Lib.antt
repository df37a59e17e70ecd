pub mod DeviceSteps
pub mod Filing
mod Telling
