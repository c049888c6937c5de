pub mod CleanLemmas
pub mod LawLemmas
pub mod PlanLemmas
pub mod TextLemmas
