pub mod Killed
pub mod Resuming
