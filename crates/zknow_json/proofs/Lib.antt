mod Keys
mod Numerals
mod Objects
mod PlainFields
mod PlainHoldings
mod PlainLines
mod PlainTokens
mod Utf8Texts
