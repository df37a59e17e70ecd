pub mod Accord
pub mod Exchange
pub mod Schedules
pub mod Catalogue
pub mod Lengths
