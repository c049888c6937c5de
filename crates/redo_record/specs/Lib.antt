pub mod Answers
pub mod Entries
pub mod Paths
pub mod Progress
pub mod inside
