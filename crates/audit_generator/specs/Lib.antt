pub mod Packages
pub mod Hosted
pub mod Advisories
pub mod Outcomes
pub mod Moments
pub mod Summaries
