pub mod Texts
pub mod Arguments
