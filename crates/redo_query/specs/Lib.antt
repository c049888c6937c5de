pub mod Answers
pub mod Names
pub mod Nearest
pub mod inside
