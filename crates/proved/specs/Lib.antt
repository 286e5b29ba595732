pub mod Facts
pub mod Demand
pub mod Unchecked
