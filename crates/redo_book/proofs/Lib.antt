pub mod EntryLemmas
pub mod FaultLemmas
pub mod FindLemmas
pub mod MadeLemmas
pub mod RunLemmas
pub mod TextLemmas
pub mod WordLemmas
pub mod WriteLemmas
