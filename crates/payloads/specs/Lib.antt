pub mod First
pub mod Payload
