pub mod Faults
pub mod LockHistories
pub mod Needs
pub mod Starts
pub mod Taking
