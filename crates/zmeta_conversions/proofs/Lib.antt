mod Lexing
mod Lines
mod ReadAgain
mod Reasons
mod Tables
mod Wanted
