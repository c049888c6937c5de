pub mod Items
pub mod Lines
pub mod Outlooks
pub mod Resting
pub mod Rows
pub mod Verdicts
