pub mod Positions
pub mod Ranges
pub mod Plan
pub mod Cutting
pub mod Agenda
pub mod Schedules
pub mod Laws
