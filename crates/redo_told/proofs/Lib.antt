pub mod BlockedLemmas
pub mod RuleLemmas
