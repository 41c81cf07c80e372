mod Begun
mod Kept
pub mod Walked
pub mod Dashes
mod Pieces
mod FileDigests
pub mod CallsFor
pub mod RegistryPaths
pub mod Standings
pub mod Agreeing
pub mod ReadBack
pub mod Agreed
mod Inserted
pub mod Beginnings
pub mod Printed
