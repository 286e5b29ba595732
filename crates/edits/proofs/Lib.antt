pub mod Inserts
pub mod Steps
pub mod Whole
pub mod Known
