pub mod Faults
pub mod Leb
pub mod Onward
