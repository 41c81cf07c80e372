pub mod Attributes
pub mod Outputs
pub mod Placing
pub mod Values
pub mod Words
pub mod WrittenTokens
