pub mod Turns
pub mod Whole
pub mod Places
pub mod Indexing
pub mod Search
