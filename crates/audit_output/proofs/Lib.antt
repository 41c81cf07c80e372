pub mod Each
pub mod Placing
pub mod Reaching
