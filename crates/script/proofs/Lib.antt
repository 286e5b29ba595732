pub mod Places
pub mod Values
pub mod Left
pub mod Says
pub mod Writes
pub mod Spoken
pub mod RecordTexts
