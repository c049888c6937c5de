mod ChangedLemmas
mod DataLemmas
mod EscapeLemmas
mod GroupingLemmas
mod LinkLemmas
mod NamedLemmas
mod NoteLemmas
mod WhyLemmas
