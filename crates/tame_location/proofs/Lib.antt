pub mod Asked
pub mod Cuts
pub mod Locking
pub mod Mapped
pub mod Raised
