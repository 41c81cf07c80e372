pub mod Ahead
pub mod Digits
pub mod KrateLemmas
mod OptionalLemmas
mod PartLemmas
mod WrittenTokens
mod ReadBack
mod RoundTrip
pub mod Greatest
mod HighestLemmas
pub mod FlagTokens
pub mod FlagMembers
pub mod FlagForms
pub mod DependencyKeys
pub mod VersionKeys
pub mod QuickLex
pub mod QuickNumbers
pub mod PlainLanes
pub mod HexLanes
