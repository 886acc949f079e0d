pub mod Led
pub mod Looping
