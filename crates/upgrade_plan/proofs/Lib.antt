pub mod Bodies
pub mod Held
pub mod HeldPlanning
pub mod Hitting
pub mod Lowering
pub mod Planning
pub mod Recording
pub mod Saying
