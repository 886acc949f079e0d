pub mod Written
pub mod Said
pub mod Verdicts
