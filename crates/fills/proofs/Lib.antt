pub mod Ands
pub mod Widths
pub mod Finite
pub mod Made
pub mod Over
