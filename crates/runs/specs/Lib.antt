pub mod Run
pub mod Gather
pub mod Feed
pub mod Whole
pub mod Sizes
