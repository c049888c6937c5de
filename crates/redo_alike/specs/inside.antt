pub mod Groups
pub mod Heights
pub mod Known
pub mod Walks
