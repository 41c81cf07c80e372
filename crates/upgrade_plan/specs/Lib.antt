pub mod Candidates
pub mod HeldPlans
pub mod LastFlags
pub mod Least
pub mod Lines
pub mod Plans
pub mod Recorded
