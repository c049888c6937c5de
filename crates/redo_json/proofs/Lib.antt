pub mod KnownLemmas
pub mod TextLemmas
pub mod ToldLemmas
