pub mod Results
pub mod Floats
pub mod Members
