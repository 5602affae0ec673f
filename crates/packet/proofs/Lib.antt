pub mod Bits
pub mod Moving
pub mod Reading
pub mod Writing
pub mod Checking
pub mod Rewritten
