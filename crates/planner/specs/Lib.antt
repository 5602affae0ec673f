pub mod Plans
pub mod Lines
pub mod Read
pub mod Answers
pub mod Cabinets
pub mod Texts
