pub mod Pieces
pub mod Counts
