pub mod Laws
pub mod Markup
pub mod Names
pub mod Reader
pub mod Tables
pub mod Texts
pub mod Trees
