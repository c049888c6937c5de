pub mod Explained
pub mod Views
pub mod Words
pub mod inside
