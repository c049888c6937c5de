pub mod Rings
pub mod inside
