pub mod AskedLemmas
pub mod LawLemmas
pub mod NoteLemmas
pub mod TextLemmas
