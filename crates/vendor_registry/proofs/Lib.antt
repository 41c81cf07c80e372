mod Absent
mod Ahead
mod Begun
mod Changed
mod Decided
mod Entries
mod Exact
mod Facts
mod Firsts
mod FolderPaths
mod Groups
mod Inserting
pub mod Pairs
mod Places
mod Premises
mod Reached
mod Sets
mod Slashless
mod Stocked
mod Told
mod Unread
pub mod Whole
mod Within
