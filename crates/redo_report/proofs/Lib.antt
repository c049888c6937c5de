pub mod LineLemmas
pub mod WritingLemmas
