mod Pieces
mod Walks
