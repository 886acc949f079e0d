pub mod Fronts
pub mod Inside
pub mod Taking
pub mod Whole
