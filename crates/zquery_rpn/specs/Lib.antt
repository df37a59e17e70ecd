pub mod Coding
pub mod Trees
pub mod QueryTrees
pub mod Element
