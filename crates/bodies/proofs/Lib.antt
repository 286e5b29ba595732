pub mod InOrder
pub mod Numbers
pub mod Stands
pub mod Keys
pub mod Halving
pub mod Files
