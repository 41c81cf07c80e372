pub mod FaultCases
pub mod Finishing
pub mod Putting
pub mod Registries
pub mod Stocked
