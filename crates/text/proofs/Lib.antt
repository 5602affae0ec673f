pub mod Cutting
pub mod OneMoreDigit
pub mod Parting
pub mod ReadBack
