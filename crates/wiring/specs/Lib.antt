pub mod Shapes
pub mod Fulls
pub mod Tables
pub mod Linked
pub mod Wireds
pub mod Cabinets
