-- An element is read as the one query that it stands for, and a query that is spelled is built.
pub mod AnyQueryPlaces
pub mod OperatorSpelled
pub mod Type1Answers
pub mod Type1Finding
pub mod Type1Making
