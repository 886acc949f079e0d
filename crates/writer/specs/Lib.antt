pub mod Bytes
pub mod Sound
