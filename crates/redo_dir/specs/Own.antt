-- The program's own files in a directory: the journal, and what a run writes before it gets its name.
use Rattle.std.specs.Prelude.{◌++◌, ◌||◌, ℕ, Bool, List, codes, decimal, nat_eq, take}
use Rattle.std.specs.List.{starts_with}
use Rattle.std.specs.Str.{bytes_eq}
use Rattle.hex.specs.Hex.{encode_lower}
use Rattle.sha2.specs.Sha256.{sha256}
use Rattle.redo_path.specs.Names.{name_of}
use Rattle.redo_which.specs.Candidates.{journal_path}

-- how the names of the temporary files begin of the run that wrote this journal: with 16 digits of the digest of its
-- first 4,096 bytes
abbrev pub temporary_front : List ℕ → List ℕ
temporary_front text = codes ".redo-" ++ take 16 (encode_lower (sha256 (take 4096 text))) ++ codes "-"

-- the temporary name with this number of that run
abbrev pub temporary_name : List ℕ → ℕ → List ℕ
temporary_name text number = temporary_front text ++ decimal number ++ codes ".tmp"

-- whether the path has the name of a temporary file of the run that wrote this journal
abbrev pub is_temporary : List ℕ → List ℕ → Bool
is_temporary text p = starts_with nat_eq (name_of p) (temporary_front text)

-- whether the path is the journal's, or that of a temporary file of its run
abbrev pub is_own : List ℕ → List ℕ → Bool
is_own text p = bytes_eq p journal_path || is_temporary text p
