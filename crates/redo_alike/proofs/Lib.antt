pub mod GroupLemmas
pub mod HeightLemmas
pub mod KeyLemmas
pub mod KnownLemmas
pub mod ListLemmas
pub mod OrderLemmas
pub mod SetLemmas
pub mod WalkLemmas
