pub mod Holds
pub mod Plans
pub mod Channels
