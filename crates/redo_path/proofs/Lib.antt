pub mod ApartLemmas
pub mod CanonicalLemmas
pub mod CutLemmas
pub mod FileNameLemmas
pub mod PartLemmas
pub mod StepLemmas
pub mod Examples
