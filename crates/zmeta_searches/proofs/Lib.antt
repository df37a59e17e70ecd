mod Blanks
mod Hyphens
mod Isbns
mod Reading
