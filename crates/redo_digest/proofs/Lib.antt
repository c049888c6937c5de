pub mod DigestLemmas
pub mod DigitLemmas
pub mod LaneLemmas
pub mod PaddingLemmas
pub mod SpellingLemmas
