-- What a build is given: the rules of its targets, and what is at each path.
use Rattle.std.specs.Prelude.{ℕ, Bool, true, List, Option}
use Rattle.redo_record.specs.Progress.{Progress}
use Rattle.redo_build.specs.Rules.{Ask, Rules}

-- the bytes of a file, or none if there is no file
abbrev pub File : Type 0
File = Option (List ℕ)

-- the sources of a build, as the layers below see them
pub record Sources : Type 0 where
  pub is_source : List ℕ → Bool
  pub has_rule : List ℕ → Bool
  -- how far the script of a target comes, given these answers
  pub progress : List ℕ → Ask → Progress
  -- the file of a source
  pub file : List ℕ → File
  -- nothing is there, and no rule makes anything there
  pub is_free : List ℕ → Bool
  -- its name is that of a .do file
  pub is_script : List ℕ → Bool

-- the rules of a build without a book: every script is begun, and its record is all that it asked for
abbrev pub without_book : Sources → Rules
without_book s = record {
  is_source = s.is_source;
  has_rule = s.has_rule;
  progress = s.progress;
  begins = λ p a. true;
  recorded = λ p a. (s.progress p a).deps;
}
