pub mod Cases
pub mod Asks
