pub mod Best
pub mod Found
