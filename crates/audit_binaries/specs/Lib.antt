pub mod Binaries
pub mod Decoding
pub mod Limits
pub mod Opened
pub mod Payloads
pub mod Summaries
