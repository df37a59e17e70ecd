-- The prefix notation: which text stands for which query, what is wrong with any other text, and what is printed.
pub mod Apart
pub mod Errors
pub mod Faults
pub mod Fronts
pub mod Grammar
pub mod Laws
pub mod Lexing
pub mod Numbers
pub mod Printing
pub mod Reading
pub mod Sets
pub mod Table
pub mod Texts
pub mod Tokens
pub mod Values
pub mod Words
