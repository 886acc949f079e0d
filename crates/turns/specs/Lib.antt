pub mod Moves
pub mod Leads
