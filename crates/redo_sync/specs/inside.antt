pub mod Knows
pub mod Places
pub mod Rule
