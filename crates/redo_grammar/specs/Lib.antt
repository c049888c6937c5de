pub mod Tokens
pub mod Grammar
pub mod Places
pub mod Refusals
pub mod Texts
