pub mod Lining
