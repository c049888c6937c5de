pub mod NumberLemmas
pub mod TargetLemmas
pub mod WaitLemmas
pub mod ListedLemmas
