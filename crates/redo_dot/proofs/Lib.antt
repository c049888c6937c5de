pub mod AmongLemmas
pub mod GraphLemmas
pub mod TextLemmas
