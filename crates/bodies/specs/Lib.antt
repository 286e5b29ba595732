pub mod Bodies
pub mod Kinds
