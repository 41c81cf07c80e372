pub mod Cuts
pub mod Ascii
pub mod Joined
pub mod Counted
pub mod Utf8Lemmas
pub mod Prefixes
pub mod Cases
pub mod Relative
pub mod Trims
mod Ruled
pub mod LastCuts
pub mod Placed
pub mod Parents
