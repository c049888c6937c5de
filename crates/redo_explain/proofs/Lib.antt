pub mod BegunLemmas
pub mod RowLemmas
pub mod StandingLemmas
