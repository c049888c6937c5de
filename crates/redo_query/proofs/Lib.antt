pub mod AnyLemmas
pub mod LawLemmas
pub mod NearLemmas
pub mod NeedLemmas
pub mod PlaceLemmas
pub mod RoundLemmas
pub mod SourceLemmas
