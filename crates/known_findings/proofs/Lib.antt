mod Among
mod Broken
mod Entries
mod FirstLines
mod FiveTexts
mod RoundTrip
pub mod Same
mod Searches
pub mod Sets
