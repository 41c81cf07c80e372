pub mod Endings
pub mod Errors
pub mod Lines
pub mod Plans
pub mod Steps
