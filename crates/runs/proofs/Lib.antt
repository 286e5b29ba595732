pub mod Cutting
pub mod Ending
pub mod Answering
pub mod Passing
pub mod Inputs
