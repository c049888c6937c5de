pub mod CircleLemmas
pub mod CountLemmas
pub mod FoundLemmas
pub mod GraphLemmas
pub mod KnownLemmas
pub mod PlaceLemmas
pub mod WalkLemmas
pub mod WayLemmas
