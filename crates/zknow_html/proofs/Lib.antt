pub mod CellTheory
pub mod DifferenceTheory
pub mod PageTheory
pub mod RowTheory
