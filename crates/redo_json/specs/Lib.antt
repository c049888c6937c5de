pub mod Lists
pub mod Made
pub mod Members
pub mod Rows
pub mod Run
pub mod Told
pub mod inside
