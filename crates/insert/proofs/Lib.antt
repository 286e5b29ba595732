pub mod FoundOnce
pub mod Apart
pub mod Loops
pub mod Told
pub mod Seeking
pub mod Filled
