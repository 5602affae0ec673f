pub mod Judging
pub mod Linking
