pub mod Ancestors
pub mod Walks
pub mod Subtrees
pub mod Places
pub mod Orders
pub mod Worked
