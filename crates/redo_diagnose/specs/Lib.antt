pub mod Diagnoses
pub mod inside
