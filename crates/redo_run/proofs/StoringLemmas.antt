-- The steps by which a run clears away and stores, and what is known of one that wasn't done.
use Rattle.std.proofs.lemmas.Option.{slice_get_within}
use Rattle.std.proofs.Common.{◌≡◌, ◌+◌, ◌∙◌, ℕ, zero, suc, Bool, List, [], ◌∷◌, ◌++◌, Option, Some, None, Err, ap, inl, inr}
use Rattle.std.proofs.Common.{append_assoc, arith, length, map, refl, subst, sym, take}
use Rattle.std.proofs.lemmas.List.{map-append}
use Rattle.std.proofs.Math.Seq.{take-append-add}
use Rattle.std.specs.Option.{option_map_or}
use Rattle.std.specs.Prelude.{IfSome, IsUtf8, if◌then◌else◌, is_some, option_map, slice_get}
use Rattle.std.specs.declared.io.ErrorKind.{ErrorKind}
use Rattle.std.specs.declared.io.ErrorKind.TheVariants.{OutOfMemory}
use Rattle.redo_path.proofs.ApartLemmas.{apart}
use Rattle.redo_tree.specs.Tree.{Tree, file_at}
use Rattle.redo_which.specs.Candidates.{book_path, journal_path}
use Rattle.redo_dir.specs.Stored.{Finishes, Journals, Removes, Step, place_of, puts_in}
use Rattle.redo_dir.specs.Storing.{HasTextsByJournal, IsUncleared, IsUnstoredByJournal, paths_to_clear, paths_to_store, steps_done, steps_to_clear, steps_to_store}
use Rattle.redo_dir.specs.declared.clearing.Left.{Left}
use Rattle.redo_dir.specs.declared.faults.JournalFault.{JournalFault}
use Rattle.redo_dir.specs.declared.faults.JournalFault.TheVariants as journal
use Rattle.redo_dir.specs.declared.faults.StoreFault.{StoreFault}
use Rattle.redo_dir.specs.declared.faults.StoreFault.TheVariants as store
use Rattle.redo_dir.specs.declared.journal.ToStore.{ToStore}
use Rattle.redo_mend.specs.Mended.{book_to_put, own_files}
use Rattle.redo_run.specs.DirFaults.{of_journal_fault, of_left}
use Rattle.redo_run.specs.Storing.{StopsAt, clearing, path_of, storing, to_store}
use Rattle.redo_run.specs.inside.Storing.{IsPart, LeavesPart, StoresPart, view_of}
use Rattle.redo_run.specs.declared.dir_fault.RunDirFault.{RunDirFault}
use Rattle.redo_run.specs.declared.dir_fault.RunDirFault.TheVariants as run

get_first : (xs ys : List Step) (k : ℕ) (x : Step) → slice_get xs k ≡ Some x → slice_get (xs ++ ys) k ≡ Some x
get_first [] ys k x e = apart cc
get_first (z ∷ zs) ys zero x e = e
get_first (z ∷ zs) ys (suc k) x e = get_first zs ys k x e

get_past : (xs ys : List Step) (k : ℕ) (x : Step) → slice_get ys k ≡ Some x → slice_get (xs ++ ys) (length xs + k) ≡ Some x
get_past [] ys k x e = let same : 0 + k ≡ k = omega arith in subst (λ n. slice_get ys n ≡ Some x) (sym same) e
get_past (z ∷ zs) ys k x e = let same : length (z ∷ zs) + k ≡ suc (length zs + k) = omega arith in subst (λ n. slice_get (z ∷ (zs ++ ys)) n ≡ Some x) (sym same) (get_past zs ys k x e)

take_first : (xs ys : List Step) (k : ℕ) (x : Step) → slice_get xs k ≡ Some x → take k (xs ++ ys) ≡ take k xs
take_first [] ys k x e = apart cc
take_first (z ∷ zs) ys zero x e = refl
take_first (z ∷ zs) ys (suc k) x e = ap (λ ws. z ∷ ws) (take_first zs ys k x e)

-- the first steps of a list are the first ones of a longer list
take_some : (xs ys : List Step) (count : ℕ) → (k : ℕ) × (take k (xs ++ ys) ≡ take count xs)
take_some xs ys zero = (0, refl)
take_some [] ys (suc count) = (0, refl)
take_some (x ∷ xs) ys (suc count) = let rest = take_some xs ys count in (suc rest.0, ap (λ ws. x ∷ ws) rest.1)

-- the step at a place, of which the path is known
step_at : (steps : List Step) (k : ℕ) (path : List ℕ) → slice_get (map path_of steps) k ≡ Some path → (step : Step) × (slice_get steps k ≡ Some step) × (path_of step ≡ path)
step_at [] k path e = apart cc
step_at (s ∷ ss) zero path e = let same : Some (path_of s) ≡ Some path = e in (s, refl, cc)
step_at (s ∷ ss) (suc k) path e = step_at ss k path e

-- a call at the path of the step behind the first N was refused
refused_there : (told : List ℕ → ErrorKind → Type 0) (steps before after : List Step) (k : ℕ) (path : List ℕ) (kind : ErrorKind) → slice_get (map path_of steps) k ≡ Some path → after ≡ before ++ take k steps → told path kind → StopsAt told steps before after k
refused_there told steps before after k path kind e done t =
    let at = step_at steps k path e in
    record { done = done; step = at.0; next = at.1; why = inr (kind, subst (λ p. told p kind) (sym at.2) t) }

removed_paths : (own : List (List ℕ)) → map path_of (map Removes own) ≡ own
removed_paths [] = refl
removed_paths (p ∷ ps) = ap (λ qs. p ∷ qs) (removed_paths ps)

cleared_paths : (over : Bool) (book : Option (List ℕ)) (own : List (List ℕ)) → map path_of (steps_to_clear over book own) ≡ paths_to_clear book own
cleared_paths over None own = removed_paths own
cleared_paths over (Some text) own = ap (λ qs. book_path ∷ qs) (removed_paths own)

put_paths : (tree : Tree) (files : List (List ℕ × List ℕ)) → map path_of (puts_in tree files) ≡ map (λ f. f.0) files
put_paths tree [] = refl
put_paths tree (f ∷ fs) = ap (λ qs. f.0 ∷ qs) (put_paths tree fs)

stored_paths : (tree : Tree) (files : List (List ℕ × List ℕ)) → map path_of (puts_in tree files ++ Finishes ∷ []) ≡ paths_to_store files
stored_paths tree files = map-append path_of (puts_in tree files) (Finishes ∷ []) ∙ ap (λ qs. qs ++ book_path ∷ []) (put_paths tree files)

-- where something wasn't cleared away
pub left_part : (told : List ℕ → ErrorKind → Type 0) (over : Bool) (book : Option (List ℕ)) (own : List (List ℕ)) (before after : List Step) (fault : StoreFault) → after ≡ before ++ take (place_of fault) (steps_to_clear over book own) → IsUncleared told (paths_to_clear book own) fault → LeavesPart told (steps_to_clear over book own) before after (of_left fault)
left_part told over book own before after (store.Device place kind) done (path, e, t) =
    let steps = steps_to_clear over book own in
    let at = subst (λ ps. slice_get ps place ≡ Some path) (sym (cleared_paths over book own)) e in
    let s = step_at steps place path at in
    (place, slice_get_within steps place s.0 s.1, refused_there told steps before after place path kind at done t)
left_part told over book own before after (store.Name place) done h = absurd h
left_part told over book own before after (store.Memory place) done h = (place, done)

journal_part : (told : List ℕ → ErrorKind → Type 0) (tree : Tree) (book : List ℕ) (files : List (List ℕ × List ℕ)) (before after : List Step) (kind : ErrorKind) → after ≡ before ++ [] → told journal_path kind → StoresPart told (steps_to_store tree book files) before after (of_journal_fault (journal.Journal kind))
journal_part told tree book files before after OutOfMemory done t = (0, done)
journal_part told tree book files before after kind done t = record { done = done; step = Journals book; next = refl; why = inr (kind, t) }

-- where a file wasn't stored
pub stores_part : (told : List ℕ → ErrorKind → Type 0) (tree : Tree) (book : List ℕ) (files : List (List ℕ × List ℕ)) (before after : List Step) (fault : JournalFault) → HasTextsByJournal (Err fault) (paths_to_store files) → after ≡ before ++ take (steps_done (Err fault) files) (steps_to_store tree book files) → IsUnstoredByJournal told (paths_to_store files) fault → StoresPart told (steps_to_store tree book files) before after (of_journal_fault fault)
stores_part told tree book files before after (journal.Journal kind) text done t = journal_part told tree book files before after kind done t
stores_part told tree book files before after (journal.File (store.Device place kind)) text done (path, e, t) =
    let at = subst (λ ps. slice_get ps place ≡ Some path) (sym (stored_paths tree files)) e in
    refused_there told (steps_to_store tree book files) before after (suc place) path kind at done t
stores_part told tree book files before after (journal.File (store.Name place)) (path, e, no_text, rest) done t =
    let at = subst (λ ps. slice_get ps place ≡ Some path) (sym (stored_paths tree files)) e in
    let s = step_at (puts_in tree files ++ Finishes ∷ []) place path at in
    record { done = done; step = s.0; next = s.1; why = inl (λ u. no_text (subst IsUtf8 s.2 u)) }
stores_part told tree book files before after (journal.File (store.Memory place)) text done t = (suc place, done)

-- what stops among the first steps stops among all, and so does what stops behind them
stops_first : (told : List ℕ → ErrorKind → Type 0) (left new before after : List Step) (k : ℕ) → StopsAt told left before after k → StopsAt told (left ++ new) before after k
stops_first told left new before after k s = record {
  done = s.done ∙ ap (λ xs. before ++ xs) (sym (take_first left new k s.step s.next));
  step = s.step;
  next = get_first left new k s.step s.next;
  why = s.why;
}

done_behind : (left new before mid after : List Step) (k : ℕ) → mid ≡ before ++ left → after ≡ mid ++ take k new → after ≡ before ++ take (length left + k) (left ++ new)
done_behind left new before mid after k m e =
    e ∙ ap (λ xs. xs ++ take k new) m ∙ append_assoc before left (take k new) ∙ ap (λ xs. before ++ xs) (sym (take-append-add left new k))

stops_behind : (told : List ℕ → ErrorKind → Type 0) (left new before mid after : List Step) (k : ℕ) → mid ≡ before ++ left → StopsAt told new mid after k → StopsAt told (left ++ new) before after (length left + k)
stops_behind told left new before mid after k m s = record {
  done = done_behind left new before mid after k m s.done;
  step = s.step;
  next = get_past left new k s.step s.next;
  why = s.why;
}

pub left_is_part : (told : List ℕ → ErrorKind → Type 0) (left new before after : List Step) (fault : RunDirFault) → LeavesPart told left before after fault → IsPart told left new before after fault
left_is_part told left new before after run.Left (count, less, s) = (count, less, stops_first told left new before after count s)
left_is_part told left new before after run.Memory (count, e) = let some = take_some left new count in (some.0, e ∙ ap (λ xs. before ++ xs) (sym some.1))
left_is_part told left new before after _ h = absurd h

pub new_is_part : (told : List ℕ → ErrorKind → Type 0) (left new before mid after : List Step) (fault : RunDirFault) → mid ≡ before ++ left → StoresPart told new mid after fault → IsPart told left new before after fault
new_is_part told left new before mid after (run.Store place) m h = stops_behind told left new before mid after (suc place) m h
new_is_part told left new before mid after run.Journal m h =
    let same : length left + 0 ≡ length left = omega arith in
    subst (StopsAt told (left ++ new) before after) same (stops_behind told left new before mid after 0 m h)
new_is_part told left new before mid after run.Memory m (count, e) = (length left + count, done_behind left new before mid after count m e)
new_is_part told left new before mid after _ m h = absurd h

-- what is planned to be cleared away is what a broken-off run has left
pub left_is_cleared : (loaded mended : Tree) (over : Bool) (left : Option Left) → over ≡ is_some (file_at loaded book_path) → option_map (λ l. l.journal) left ≡ file_at loaded journal_path → IfSome left (λ l. l.book ≡ book_to_put loaded mended) → IfSome left (λ l. l.own.items ≡ own_files loaded mended) → option_map_or (λ l. steps_to_clear over l.book l.own.items) left [] ≡ clearing loaded mended
left_is_cleared loaded mended over None o j b w = subst (λ file. [] ≡ (if is_some file then steps_to_clear (is_some (file_at loaded book_path)) (book_to_put loaded mended) (own_files loaded mended) else [])) j refl
left_is_cleared loaded mended over (Some l) o j b w =
    subst (λ file. steps_to_clear over l.book l.own.items ≡ (if is_some file then steps_to_clear (is_some (file_at loaded book_path)) (book_to_put loaded mended) (own_files loaded mended) else [])) j
    (ap (λ x. steps_to_clear x l.book l.own.items) o ∙ ap (λ x. steps_to_clear (is_some (file_at loaded book_path)) x l.own.items) b
    ∙ ap (steps_to_clear (is_some (file_at loaded book_path)) (book_to_put loaded mended)) w)

-- what is planned to be stored is what a run stores
pub new_is_stored : (tree : Tree) (new : Option ToStore) → option_map_or (λ n. steps_to_store tree n.book n.files.items) new [] ≡ storing tree (option_map view_of new)
new_is_stored tree None = refl
new_is_stored tree (Some n) = refl

-- and so where the tree and the files were read through references
pub new_is_stored_by : (read reread tree : Tree) (new : Option ToStore) (list files : List (List ℕ × List ℕ)) (book : List ℕ) → option_map view_of new ≡ to_store read list book → read ≡ tree → reread ≡ tree → list ≡ files → option_map_or (λ n. steps_to_store reread n.book n.files.items) new [] ≡ storing tree (to_store tree files book)
new_is_stored_by read reread tree new list files book e r s l =
    ap (λ t. option_map_or (λ n. steps_to_store t n.book n.files.items) new []) s ∙ new_is_stored tree new ∙ ap (storing tree) (e ∙ ap (λ t. to_store t list book) r ∙ ap (λ fs. to_store tree fs book) l)
