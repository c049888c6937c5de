pub mod Distinct
pub mod First
pub mod Passed
pub mod Pieces
pub mod Slots
