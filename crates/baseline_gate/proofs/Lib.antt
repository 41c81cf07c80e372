mod Counted
mod Gated
