pub mod Told
pub mod Lines
pub mod Trees
pub mod Calls
pub mod SetUps
