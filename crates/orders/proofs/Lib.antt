pub mod Merging
pub mod Strictly
pub mod Halves
