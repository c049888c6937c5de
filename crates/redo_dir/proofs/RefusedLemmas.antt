-- Errors of calls that were to change something.
use Rattle.std.proofs.Common.{◌≡◌, ◌⊎◌, inl, inr, ℕ, List, ap}
use Rattle.std.specs.Path.{path_join, path_with_file_name}
use Rattle.std.specs.Prelude.{Err, IfErr, Ok, Result}
use Rattle.std.specs.declared.io.ErrorKind.{ErrorKind}
use Rattle.std.specs.declared.io.ErrorKind.TheVariants.{AlreadyExists}
use Rattle.redo_which.specs.Candidates.{book_path, journal_path}
use Rattle.redo_dir.specs.Refused.{AnyFails, Failed, Fails, IsUnchanged, is_of_redo_at_change}

-- what an error tells tells another thing
pub err_to : {A E : Type 0} (P Q : E → Type 0) (r : Result A E) → IfErr r P → ((error : E) → P error → Q error) → IfErr r Q
err_to P Q (Ok x) h to = tt
err_to P Q (Err error) h to = to error h

-- a call at the path's own place
pub at_path : (fails : Fails) (top path place : List ℕ) (kind : ErrorKind) → place ≡ path_join top path → fails place kind → IsUnchanged fails top path kind
at_path fails top path place kind at h = inr (place, inl at, h)

-- a call for the journal or the book, at any place
pub anywhere : (fails : Fails) (top path place : List ℕ) (kind : ErrorKind) → (path ≡ journal_path) ⊎ (path ≡ book_path) → fails place kind → IsUnchanged fails top path kind
anywhere fails top path place kind is h = inr (place, inr (inr is), h)

-- a call at the place of a temporary file beside it
pub beside : (fails : Fails) (top path place name : List ℕ) (kind : ErrorKind) → place ≡ path_with_file_name (path_join top path) name → fails place kind → IsUnchanged fails top path kind
beside fails top path place name kind at h = inr (place, inr (inl (name, at)), h)

-- something stood at the path's own place, or a call there was refused
pub taken_at_path : (fails : Fails) (top path place : List ℕ) (kind : ErrorKind) → place ≡ path_join top path → (kind ≡ AlreadyExists) ⊎ fails place kind → IsUnchanged fails top path kind
taken_at_path fails top path place kind at (inl is) = inl (ap is_of_redo_at_change is)
taken_at_path fails top path place kind at (inr h) = at_path fails top path place kind at h

-- a call of the system, or one on a new file
pub any_of : {C F : Type 0} (fails : C → Fails) (made : F → List ℕ → Type 0) (failed : F → ErrorKind → Type 0) (gone : F → List ℕ → Type 0) (calls : C) (place : List ℕ) (kind : ErrorKind) → fails calls place kind ⊎ Failed made failed gone place kind → AnyFails fails made failed gone place kind
any_of fails made failed gone calls place kind (inl h) = inl (calls, h)
any_of fails made failed gone calls place kind (inr h) = inr h
