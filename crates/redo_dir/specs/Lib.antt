pub mod Called
pub mod Loaded
pub mod Locks
pub mod Own
pub mod Refused
pub mod Stored
pub mod Storing
pub mod inside
