pub mod Schedule
pub mod inside
