pub mod Foreseen
pub mod Listing
pub mod inside
