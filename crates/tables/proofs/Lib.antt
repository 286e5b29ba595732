pub mod Cells
pub mod Scans
pub mod Field
pub mod Lists
pub mod Exact
pub mod Runs
