pub mod Word
pub mod Runs
pub mod Bell
pub mod Tally
pub mod Tracks
pub mod Deeds
pub mod Crews
pub mod Offers
