pub mod Search
pub mod Makers
