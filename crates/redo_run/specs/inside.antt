pub mod Driving
pub mod Foreseen
pub mod Loading
pub mod Storing
pub mod Workers
