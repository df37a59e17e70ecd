pub mod Parts
pub mod RecordLaws
pub mod Records
