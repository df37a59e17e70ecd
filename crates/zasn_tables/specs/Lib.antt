-- Productions of ASN.1 as tables of places: which elements they have, how these are read, and how they are built.
pub mod Building
pub mod Choice
pub mod Laws
pub mod Meanings
pub mod Place
pub mod Reading
pub mod Standing
pub mod Table
pub mod Within
