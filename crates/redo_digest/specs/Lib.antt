pub mod Digest
pub mod inside
