pub mod Said
pub mod Found
