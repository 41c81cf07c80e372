pub mod Findings
pub mod Baselines
pub mod Laws
