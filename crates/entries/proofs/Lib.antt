pub mod Wrote
pub mod Entries
pub mod Owning
