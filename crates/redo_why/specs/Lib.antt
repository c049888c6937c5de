pub mod OutOfDate
pub mod Reasons
pub mod Runs
pub mod Verdicts
