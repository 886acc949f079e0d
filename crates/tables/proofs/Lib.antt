pub mod Turns
pub mod ByKind
pub mod Whole
pub mod Read
