pub mod Faults
pub mod Packs
pub mod Unpacks
pub mod inside
