-- The table of places of each production (Z39.50-2003, 4.1).
pub mod Closes
pub mod Deliveries
pub mod Diagnostics
pub mod ElementSets
pub mod Externals
pub mod Implementations
pub mod InitRequests
pub mod InitResponses
pub mod PresentRequests
pub mod PresentResponses
pub mod Ranges
pub mod RecordCompositions
pub mod Records
pub mod SearchDetails
pub mod SearchQueries
pub mod SearchRequests
pub mod SearchResponses
