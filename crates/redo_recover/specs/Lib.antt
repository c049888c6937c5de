pub mod Broken
pub mod Opening
pub mod Steps
