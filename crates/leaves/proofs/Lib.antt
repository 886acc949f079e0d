pub mod Faults
pub mod Fronts
pub mod Numbers
pub mod Text
pub mod Way
