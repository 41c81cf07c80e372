pub mod Once
pub mod Starting
pub mod Told
