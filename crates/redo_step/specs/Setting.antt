-- The setting of a target's script.
use Rattle.std.specs.Prelude.{ℕ, Bool, true, false, List, [], ◌∷◌, Option, None, Some, is_some}
use Rattle.redo_script.specs.declared.ast.Parameter.{Parameter}
use Rattle.redo_script.specs.declared.ast.Parameter.TheVariants.{One, Two, Three}
use Rattle.redo_tree.specs.Tree as tree_words
use Rattle.redo_tree.specs.Tree.{Tree, Node, node_at, file_at}
pub use Rattle.redo_which.specs.Rule.{is_rule}
use Rattle.redo_which.specs.Rule.{Found, Arguments, found_of}
use Rattle.redo_record.specs.Paths.{Path}
use Rattle.redo_step.specs.Path.{resolved}
use Rattle.redo_step.specs.declared.scope.Binding.{Binding}

-- What a script runs in: the tree, the rule's arguments, the limit of bytes, and the names that the loops around a
-- statement bind, innermost first.
pub record Setting : Type 0 where
  pub source : Path → Option (List ℕ)
  pub is_directory : Path → Bool
  pub has_rule : Path → Bool
  pub target : Path
  pub directory : Path
  pub stands_for : Parameter → List ℕ
  pub third : Option Path
  pub limit : ℕ
  pub bound : List Binding

-- whether a directory is there
abbrev pub has_directory : Option Node → Bool
has_directory None = false
has_directory (Some tree_words.Directory) = true
has_directory (Some (tree_words.File bytes)) = false

-- the bytes that a parameter stands for
abbrev pub value_in : Arguments → Parameter → List ℕ
value_in a One = a.one
value_in a Two = a.two
value_in a Three = a.three

-- The setting of a target's script in a tree, given what the search finds for each path and the most bytes of a file.
-- No loop has begun.
unfoldable pub setting_by : Tree → (Path → Found) → ℕ → Path → Arguments → Setting
setting_by tree found limit target a = record {
  source = file_at tree;
  is_directory = λ p. has_directory (node_at tree p);
  has_rule = λ p. is_rule (found p);
  target = target;
  directory = a.dir;
  stands_for = value_in a;
  third = resolved a.dir a.three;
  limit = limit;
  bound = [];
}

-- the setting of a target's script in a tree
abbrev pub setting_of : Tree → ℕ → Path → Arguments → Setting
setting_of tree limit target a = setting_by tree (found_of tree) limit target a

-- the setting of a turn of a loop: this name has this value
abbrev pub with_value : Setting → List ℕ → List ℕ → Setting
with_value setting name value = record setting { bound = record { name = name; value = value } ∷ setting.bound }

-- whether the path is a file of the tree
abbrev pub is_source : Setting → Path → Bool
is_source setting p = is_some (setting.source p)
