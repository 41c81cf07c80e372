pub mod Begun
pub mod LockedRuns
pub mod Sufficing
pub mod Taking
pub mod Waiting
