pub mod Dot
pub mod Lists
