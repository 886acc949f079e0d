pub mod Packed
pub mod Texts
pub mod Putting
pub mod Cases
