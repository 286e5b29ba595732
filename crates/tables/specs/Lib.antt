pub mod Sets
pub mod Exact
