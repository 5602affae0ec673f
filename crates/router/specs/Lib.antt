pub mod Inner
pub mod Kept
pub mod Calls
