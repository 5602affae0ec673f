pub mod Fields
pub mod Number
pub mod Parted
pub mod Spelled
