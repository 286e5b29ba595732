pub mod File
pub mod Promises
pub mod Examples
