pub mod Numbered
pub mod Taking
pub mod Filled
