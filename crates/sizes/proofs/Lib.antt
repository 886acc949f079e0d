pub mod Sums
pub mod Blanks
pub mod Making
