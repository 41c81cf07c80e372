pub mod Begun
pub mod Chained
pub mod Exact
pub mod Moved
pub mod PayloadLemmas
pub mod Together
