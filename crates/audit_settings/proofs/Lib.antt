pub mod Denied
pub mod First
pub mod Noted
