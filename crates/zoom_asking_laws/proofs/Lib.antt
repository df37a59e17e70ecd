pub mod TakeSteps
pub mod Readings
pub mod Exchanges
pub mod Closings
pub mod Stages
pub mod Serving
