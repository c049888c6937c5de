pub mod LargeLemmas
pub mod TurnLemmas
pub mod UnpackLemmas
