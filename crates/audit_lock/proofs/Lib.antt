pub mod Ahead
pub mod InOrder
pub mod Putting
pub mod Reaching
pub mod Shapes
pub mod Steps
pub mod Walks
