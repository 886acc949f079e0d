pub mod Small
pub mod Plain
pub mod Asks
