pub mod AlikeLemmas
mod FileDigestLemmas
pub mod GrowLemmas
pub mod KeptLemmas
pub mod KeyLemmas
mod LengthLemmas
pub mod NodeLemmas
pub mod NotedLemmas
pub mod PartingLemmas
pub mod WithoutLemmas
