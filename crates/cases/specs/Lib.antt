pub mod Cases
pub mod Moves
pub mod Asks
