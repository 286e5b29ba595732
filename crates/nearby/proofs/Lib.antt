pub mod Right
pub mod Listing
pub mod Reached
pub mod Marking
pub mod RingTests
pub mod RingsTell
