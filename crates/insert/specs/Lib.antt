pub mod Perimeter
pub mod Sought
