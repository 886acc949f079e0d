pub mod Sound
pub mod Sums
pub mod ByKind
pub mod Held
pub mod Capped
pub mod Shapes
