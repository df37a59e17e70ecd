pub mod Heights
pub mod InForceKept
pub mod InForceLemmas
pub mod PutLemmas
pub mod NotationTheory
