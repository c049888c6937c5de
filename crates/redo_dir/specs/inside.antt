pub mod Batches
pub mod Clearing
pub mod Contents
pub mod Levels
