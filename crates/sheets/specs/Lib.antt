pub mod Said
pub mod Steps
pub mod Index
