pub mod Numbers
pub mod Records
pub mod Changes
pub mod Indexes
pub mod Lists
pub mod Parts
