pub mod OpenRuns
pub mod Placed
pub mod RowLaws
pub mod Rows
pub mod RowSteps
pub mod Runs
