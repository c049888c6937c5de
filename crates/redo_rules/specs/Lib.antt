pub mod Build
pub mod Results
pub mod Standing
pub mod TreeSources
pub mod inside
