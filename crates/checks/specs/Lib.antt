pub mod Between
pub mod Most
pub mod Named
