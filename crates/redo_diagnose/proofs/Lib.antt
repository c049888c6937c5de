pub mod AskLemmas
pub mod FailureLemmas
