pub mod Checking
pub mod Decided
pub mod Ends
pub mod Reported
pub mod Scripts
pub mod Slots
pub mod Works
