pub mod NewBook
pub mod Past
pub mod inside
