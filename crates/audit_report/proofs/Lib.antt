pub mod Depths
pub mod Kept
pub mod Once
pub mod Pouring
pub mod Showing
pub mod Treed
