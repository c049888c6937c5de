-- A small tree as a build with a book sees it, and a record that is true of it.
use Rattle.std.specs.Prelude.{◌≡◌, ℕ, true, false, List, [], ◌∷◌, ◌++◌, Some, None, codes, refl}
use Rattle.redo_digest.specs.Digest.{state_of}
use Rattle.redo_tree.specs.Tree.{Tree, Directory, File}
use Rattle.redo_script.specs.Bytes.{is_plain}
use Rattle.redo_script.specs.Reading.{next_byte, at_end, read_on, tokens_of}
use Rattle.redo_script.specs.Parsing.{parse_on, statements_of}
use Rattle.redo_script.specs.Texts.{script_in}
use Rattle.redo_book.specs.Book.{Record}
use Rattle.redo_book.specs.declared.book.BookEntry.TheVariants.{Change, Create}
use Rattle.redo_build.specs.Schedule.{nothing_known}
use Rattle.redo_step.specs.Limits.{LimitsView}
use Rattle.redo_step.specs.Path.{resolved}
use Rattle.redo_step.specs.Statements.{meaning, run}
use Rattle.redo_step.specs.Setting.{setting_by}
use Rattle.redo_skip.specs.Sources.{Sources}
use Rattle.redo_skip.specs.Truth.{IsWitness}
use Rattle.redo_rules.specs.Build.{sources_of}
use Rattle.redo_rules.specs.TreeSources.{IsTrueOfTrees}

abbrev line : List ℕ → List ℕ
line bytes = bytes ++ 10 ∷ []

abbrev script : List ℕ
script = line (codes "redo-ifchange c") ++ line (codes "redo-ifcreate x")

-- a depends on the source c, and on that x isn't there; beside them is the directory d
abbrev tree : Tree
tree = ([], Directory)
    ∷ (codes "a.do", File script)
    ∷ (codes "c", File (codes "y"))
    ∷ (codes "d", Directory)
    ∷ []

abbrev limits : LimitsView
limits = record { targets = 10; file_bytes = 1000 }

abbrev s : Sources
s = sources_of tree limits

free : s.is_free (codes "x") ≡ true
free = refl

source_is_not_free : s.is_free (codes "c") ≡ false
source_is_not_free = refl

directory_is_not_free : s.is_free (codes "d") ≡ false
directory_is_not_free = refl

ruled_is_not_free : s.is_free (codes "a") ≡ false
ruled_is_not_free = refl

script_by_name : s.is_script (codes "d/a.do") ≡ true
script_by_name = refl

no_script_by_directory : s.is_script (codes "a.do/b") ≡ false
no_script_by_directory = refl

file_of_source : s.file (codes "c") ≡ Some (codes "y")
file_of_source = refl

-- the record that a build of a leaves, which made no file
abbrev left : Record
left = record {
  target = codes "a";
  state = None;
  entries = Change (state_of (Some script)) (codes "a.do") ∷ Change (state_of (Some (codes "y"))) (codes "c")
      ∷ Create (codes "x") ∷ [];
}

witness : IsWitness left s nothing_known
unfolding script_in tokens_of read_on next_byte at_end statements_of parse_on is_plain meaning run resolved setting_by
witness = record {
  ruled = refl;
  file = None;
  came = refl;
  state = refl;
  states = ((Some script, refl, refl), ((Some (codes "y"), refl, refl), (tt, tt)));
}

true_of_the_tree : IsTrueOfTrees 1000 left
true_of_the_tree = record {
  tree = tree;
  ask = nothing_known;
  witness = witness;
}
