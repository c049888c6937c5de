pub mod Kinds
pub mod Stored
