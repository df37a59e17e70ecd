pub mod MarkupTheory
pub mod NameTheory
pub mod ReadTheory
pub mod References
pub mod TextTheory
pub mod TableTheory
