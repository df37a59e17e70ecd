pub mod Encodings
pub mod Facts
pub mod FactLaws
pub mod Known
pub mod List
pub mod Saved
pub mod Tables
