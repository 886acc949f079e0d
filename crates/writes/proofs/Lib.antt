pub mod Bytes
pub mod Peeks
pub mod Making
pub mod Turns
pub mod Long
pub mod Whole
