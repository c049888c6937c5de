pub mod Mended
pub mod Recovered
pub mod inside
