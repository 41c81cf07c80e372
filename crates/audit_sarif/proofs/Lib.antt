pub mod FirstUses
pub mod SarifDepths
pub mod Telling
