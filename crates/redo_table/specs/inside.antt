pub mod Targets
pub mod Listed
