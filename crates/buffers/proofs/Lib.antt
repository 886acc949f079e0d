pub mod Written
pub mod Verdicts
