pub mod Notes
pub mod Texts
pub mod inside
