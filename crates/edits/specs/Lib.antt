pub mod Each
pub mod Known
