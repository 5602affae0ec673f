mod Answering
pub mod Halfway
mod SoFar
mod Spelling
mod Standing
mod Unchanged
