pub mod Found
pub mod Graph
pub mod Walks
