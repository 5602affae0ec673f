pub mod Upward
pub mod Subtree
pub mod Meeting
pub mod Ways
pub mod Ordering
pub mod Computed
pub mod Examples
pub mod Unique
pub mod Splitting
mod Sizes
