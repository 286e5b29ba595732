pub mod Storing
pub mod Listing
