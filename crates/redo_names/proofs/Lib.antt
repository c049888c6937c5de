pub mod IndexLemmas
pub mod ListLemmas
pub mod OverLemmas
pub mod PathLemmas
pub mod MapLemmas
