-- Lists of paths in the order in which they were first seen. A path is its text.
pub use Rattle.redo_names.specs.Paths.{Path, IsAmong, AreDistinct, is_among, with_path, with_new}
