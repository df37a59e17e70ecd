pub mod Reading
pub mod Showing
pub mod OneShowing
pub mod Choosing
mod Picking
pub mod Joining
pub mod Merging
pub mod Savings
pub mod Extracting
pub mod Filling
mod Querying
mod Changing
mod NewsTheory
pub mod SameViewing
pub mod SavedEach
pub mod NotingOthers
pub mod Noting
pub mod Scanning
pub mod ScanningAll
pub mod MarkedSources
pub mod GivenJoined
pub mod MarkedTheory
pub mod Keeping
pub mod Streaming
pub mod FormJoined
pub mod JoinedTheory
pub mod Writing
pub mod Measuring
