pub mod Blocked
pub mod Rows
pub mod inside
