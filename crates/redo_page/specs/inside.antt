pub mod Forms
pub mod Grouping
pub mod Links
pub mod Named
pub mod Whys
