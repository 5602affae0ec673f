mod Pieces
mod Answering
