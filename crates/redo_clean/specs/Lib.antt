pub mod Cleaned
pub mod Planned
pub mod Texts
pub mod inside
