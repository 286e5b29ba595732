pub mod Tests
pub mod Names
pub mod Rings
pub mod Parts
