pub mod Folders
pub mod Reading
pub mod Untold
