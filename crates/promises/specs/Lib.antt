pub mod Order
pub mod Told
pub mod Card
pub mod Pieces
