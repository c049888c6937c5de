pub mod Views
pub mod Faults
pub mod Permits
pub mod Taken
pub mod inside
