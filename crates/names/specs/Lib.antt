pub mod Names
pub mod Rising
pub mod Slots
pub mod Verdicts
