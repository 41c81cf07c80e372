pub mod Built
pub mod Checks
pub mod Failed
pub mod Looked
pub mod Named
pub mod Vendored
pub mod Grouped
pub mod Vendoring
