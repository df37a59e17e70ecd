pub mod PartTheory
pub mod Taking
