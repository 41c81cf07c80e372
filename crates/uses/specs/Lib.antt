pub mod Newest
pub mod Refusals
pub mod Trees
