pub mod Ahead
pub mod Starting
pub mod Widened
