use Rattle.std.proofs.Common.{◌≡◌, ◌≢◌, ◌<◌, All, arith, length, map, subst, sym, List, [], ℕ, Ok, Err}
use Rattle.std.proofs.lemmas.List.Elements.{All-from_recursion}
use Rattle.std.specs.Cmp.Lexicographic.{slice_cmp}
use Rattle.std.specs.List.{insert, remove}
use Rattle.std.specs.List.Sorted.{IsBinarySearchResult, IsSearchInRange}
use Rattle.std.specs.Ordering.{nat_cmp}
use Rattle.redo_past.specs.NewBook.{with_file}
use Rattle.redo_past.proofs.FileLemmas.{File, none-new, none-removed, put-back, put-new, put-removed}
use Rattle.redo_past.proofs.OrderLemmas.{ascending-sorted}
use Rattle.redo_past.proofs.RowLemmas.{rising}
use Rattle.redo_past.proofs.books.take_out.Goals as goal

-- one that has the path is taken out, and no other has it
pub returns-in-Ok-clause-none : goal.returns-in-Ok-clause-none
returns-in-Ok-clause-none c =
    let files : List File = c.args.files.now.items in
    let path = c.args.path.now in
    let at = c.in-Ok.at in
    let d : File = (path, []) in
    let sorted = ascending-sorted (map (λ (f : File). f.0) files) c.requires in
    let place = subst (λ (l : List File). IsBinarySearchResult (λ f. slice_cmp nat_cmp f.0 path) l (Ok at)) c.deref.ensures.value c.in-Ok.ensures.place in
    let within = subst (λ (l : List File). at < length l) c.deref.ensures.value c.in-Ok.ensures.within in
    let P : List File → Type 0 = All (λ f. f.0 ≢ path) in
    subst P (sym c.remove-other.ensures.items)
    (All-from_recursion (λ (f : File). f.0 ≢ path) (remove files at) (none-removed files at path d sorted within (place d)))

pub returns-in-Ok-clause-place : goal.returns-in-Ok-clause-place
returns-in-Ok-clause-place c =
    let files : List File = c.args.files.now.items in
    let path = c.args.path.now in
    let at = c.in-Ok.at in
    let d : File = (path, []) in
    let sorted = ascending-sorted (map (λ (f : File). f.0) files) c.requires in
    let place = subst (λ (l : List File). IsBinarySearchResult (λ f. slice_cmp nat_cmp f.0 path) l (Ok at)) c.deref.ensures.value c.in-Ok.ensures.place in
    let within = subst (λ (l : List File). at < length l) c.deref.ensures.value c.in-Ok.ensures.within in
    let P : List File → Type 0 = λ l. (bytes : List ℕ) → insert l at (path, bytes) ≡ with_file l path bytes in
    subst P (sym c.remove-other.ensures.items) (λ bytes. put-back files at path bytes d sorted within (place d))

pub returns-in-Ok-clause-others : goal.returns-in-Ok-clause-others
returns-in-Ok-clause-others c =
    let files : List File = c.args.files.now.items in
    let path = c.args.path.now in
    let at = c.in-Ok.at in
    let d : File = (path, []) in
    let sorted = ascending-sorted (map (λ (f : File). f.0) files) c.requires in
    let place = subst (λ (l : List File). IsBinarySearchResult (λ f. slice_cmp nat_cmp f.0 path) l (Ok at)) c.deref.ensures.value c.in-Ok.ensures.place in
    let within = subst (λ (l : List File). at < length l) c.deref.ensures.value c.in-Ok.ensures.within in
    let P : List File → Type 0 = λ l. (bytes : List ℕ) → with_file l path bytes ≡ with_file files path bytes in
    subst P (sym c.remove-other.ensures.items) (λ bytes. put-removed files at path bytes d sorted within (place d))

-- where none has it, all stay
pub returns-in-Err-clause-none : goal.returns-in-Err-clause-none
returns-in-Err-clause-none c =
    let files : List File = c.args.files.now.items in
    let path = c.args.path.now in
    let at = c.in-Err.at in
    let sorted = ascending-sorted (map (λ (f : File). f.0) files) c.requires in
    let place = subst (λ (l : List File). IsBinarySearchResult (λ f. slice_cmp nat_cmp f.0 path) l (Err at)) c.deref.ensures.value c.in-Err.ensures.place in
    let within = subst (λ (l : List File). IsSearchInRange (Err at) (length l)) c.deref.ensures.value c.in-Err.ensures.within in
    let both = place (rising (λ (f : File). f.0) path files sorted) in
    All-from_recursion (λ (f : File). f.0 ≢ path) files (none-new files at path within (λ k d h. both.0 k d (omega arith) h) (λ k d h b. both.1 k d h b))

pub returns-in-Err-clause-place : goal.returns-in-Err-clause-place
returns-in-Err-clause-place c =
    let files : List File = c.args.files.now.items in
    let path = c.args.path.now in
    let at = c.in-Err.at in
    let sorted = ascending-sorted (map (λ (f : File). f.0) files) c.requires in
    let place = subst (λ (l : List File). IsBinarySearchResult (λ f. slice_cmp nat_cmp f.0 path) l (Err at)) c.deref.ensures.value c.in-Err.ensures.place in
    let within = subst (λ (l : List File). IsSearchInRange (Err at) (length l)) c.deref.ensures.value c.in-Err.ensures.within in
    let both = place (rising (λ (f : File). f.0) path files sorted) in
    λ bytes. put-new files at path bytes within (λ k d h. both.0 k d (omega arith) h) (λ k d h b. both.1 k d h b)
