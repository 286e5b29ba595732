pub mod Loops
pub mod Probing
pub mod Seats
pub mod Names
pub mod Pairs
