pub mod JoinedTheory
pub mod OpacTheory
pub mod SafeTheory
