pub mod DeadLemmas
