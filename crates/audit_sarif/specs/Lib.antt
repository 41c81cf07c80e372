pub mod Firsts
pub mod Rules
pub mod Sarif
pub mod SarifObjects
pub mod SarifRuns
pub mod SarifTexts
