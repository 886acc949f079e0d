pub mod Moving
pub mod Leading
