-- Which element stands for which query.
pub mod AnyQueries
pub mod Operands
pub mod Operators
pub mod Type1
pub mod Type1Reading
