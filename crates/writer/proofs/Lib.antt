pub mod Shapes
pub mod Links
pub mod Turns
pub mod Heads
pub mod Answering
