pub mod Checks
pub mod NewBook
pub mod Sources
pub mod Truth
pub mod inside
