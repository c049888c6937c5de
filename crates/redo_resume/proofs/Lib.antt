pub mod KilledLemmas
pub mod NextLemmas
