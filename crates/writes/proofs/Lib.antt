pub mod Texts
pub mod Rows
pub mod Linked
pub mod Whole
