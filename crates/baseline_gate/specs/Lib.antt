pub mod Reports
pub mod Gates
pub mod Laws
