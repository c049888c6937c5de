pub mod FoundLemmas
pub mod MendLemmas
pub mod OneLemmas
pub mod OwnLemmas
pub mod SaidLemmas
