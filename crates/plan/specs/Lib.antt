pub mod Tallies
pub mod Inputs
pub mod Decks
