pub mod Joining
pub mod Nested
pub mod Newline
pub mod Placed
pub mod Puts
pub mod Reading
pub mod Writing
