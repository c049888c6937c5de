pub mod Data
pub mod Grouping
pub mod Html
pub mod Lists
pub mod Pages
pub mod Parts
pub mod Whole
pub mod inside
