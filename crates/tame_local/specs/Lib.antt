pub mod Builders
pub mod Calls
pub mod Combos
pub mod CrateFiles
pub mod Digests
pub mod Inserts
pub mod Refusals
pub mod Registries
