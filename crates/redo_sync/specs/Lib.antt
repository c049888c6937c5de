pub mod Shown
pub mod Relay
pub mod Taken
pub mod inside
