pub mod Steps
pub mod Rulebooks
pub mod Ruled
