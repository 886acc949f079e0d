pub mod Turns
pub mod Places
pub mod Items
pub mod Passed
pub mod Passing
pub mod Inside
