pub mod Askable
pub mod NewTargets
