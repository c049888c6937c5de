pub mod Bundle
pub mod Ends
pub mod inside
