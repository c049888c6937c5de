-- The directories that are noted for their default files: none is missed.
use Rattle.std.proofs.Common.{◌≡◌, ◌≢◌, ◌<◌, ◌+◌, ◌-◌, List, [], ◌∷◌, ◌++◌, ℕ, Bool, true, false, cond, get_or, take}
use Rattle.std.proofs.Common.{drop, length, refl, sym, ap, subst, ◌∙◌, zero, suc, arith, Some, None, codes, nat_eq}
use Rattle.std.proofs.Common.{length-append, true≢false}
use Rattle.std.proofs.Math.Seq.{drop-append_seam, take-append_seam}
use Rattle.std.proofs.lemmas.Bool.Decides.{Decides-eqb}
use Rattle.std.proofs.lemmas.List.{append_assoc, get_or-append_right}
use Rattle.std.proofs.lemmas.Slice.Eq.{ends_is}
use Rattle.std.specs.Prelude.{IfSome, option_and_then, Option, MatchOption, is_some, ◌||◌, ◌⊎◌, slice_get}
use Rattle.std.proofs.Common.{inl, inr}
use Rattle.redo_names.specs.Paths.{IsAmong}
use Rattle.std.specs.Cmp.Lexicographic.{pointwise, same_text}
use Rattle.std.specs.List.{AllByRecursion, list_any}
use Rattle.redo_path.specs.Names.{IsPart, child_of, is_slash, name_of, parent_of}
use Rattle.redo_path.specs.inside.Walking.{IsNameStart}
use Rattle.redo_path.proofs.PartLemmas.{AllByRecursion-append, before_last-start, name_of-start}
use Rattle.redo_tree.specs.Tree.{Directory, File, HasNoDefaults, IsNoted, Node, NotesDefaults, Tree, bytes_of}
use Rattle.redo_tree.specs.Tree.{default_dir, is_default, node_at, top}
use Rattle.redo_tree.proofs.GrowLemmas.{Puts, is_path}

-- ---- the tree grows

pub noted_top : NotesDefaults [] top
noted_top [] dir Directory e h = cc
noted_top [] dir (File bytes) e h = cc
noted_top (byte ∷ bytes) dir node e h = cc

noted_here : (path q dir : List ℕ) (node here : Node) (dirs : List (List ℕ)) → path ≡ q → node ≡ here → default_dir q here ≡ Some dir → IfSome (default_dir path node) (IsNoted dirs) → IsNoted dirs dir
noted_here path q dir node here dirs same alike e h =
    let is : default_dir path node ≡ Some dir = (λ i. default_dir (same i) (alike i)) ∙ e in
    subst (λ o. IfSome o (IsNoted dirs)) is h

noted_at : (old new : List (List ℕ)) (tree next : Tree) (path : List ℕ) (node : Node) (q dir : List ℕ) (here : Node) (b : Bool) → is_path path q ≡ b → node_at next q ≡ cond b (Some node) (node_at tree q)
    → NotesDefaults old tree → ((d : List ℕ) → IsNoted old d → IsNoted new d) → IfSome (default_dir path node) (IsNoted new) → node_at next q ≡ Some here → default_dir q here ≡ Some dir → IsNoted new dir
noted_at old new tree next path node q dir here true t put was kept h at e =
    let alike : node ≡ here = cc in
    noted_here path q dir node here new (same_text path q (sym t)) alike e h
noted_at old new tree next path node q dir here false t put was kept h at e = kept dir (was q dir here (sym put ∙ at) e)

-- one node more, whose directory is noted where it has to be
pub noted-with : (old new : List (List ℕ)) (tree next : Tree) (path : List ℕ) (node : Node) → Puts tree next path node → NotesDefaults old tree → ((d : List ℕ) → IsNoted old d → IsNoted new d) → IfSome (default_dir path node) (IsNoted new) → NotesDefaults new next
noted-with old new tree next path node puts was kept h q dir here at e = noted_at old new tree next path node q dir here (is_path path q) refl (puts.at q) was kept h at e

-- ---- where a directory isn't noted, no such file stands in it

-- no byte is a slash
abbrev NoSlash : List ℕ → Type 0
NoSlash name = AllByRecursion (λ byte. is_slash byte ≡ false) name

no_slash_at : (name : List ℕ) (k : ℕ) → NoSlash name → k < length name → get_or name k 0 ≢ 47
no_slash_at [] k h below e = absurd (omega arith)
no_slash_at (b ∷ bs) zero h below e = true≢false (sym (ap is_slash e) ∙ h.0)
no_slash_at (b ∷ bs) (suc k) h below e = no_slash_at bs k h.1 (omega arith) e

child_start : (byte : ℕ) (bytes name : List ℕ) → NoSlash name → IsNameStart (child_of (byte ∷ bytes) name) (length (byte ∷ bytes) + 1)
child_start byte bytes name h =
    let dir = byte ∷ bytes in
    let long : length (dir ++ 47 ∷ name) ≡ length dir + suc (length name) = length-append dir (47 ∷ name) in
    record {
      within = omega (arith, long);
      slash_before = λ some. get_or-append_right dir (47 ∷ name) (length dir) (length dir + 1 - 1) 0 refl (omega arith) ∙ (let e : length dir + 1 - 1 - length dir ≡ 0 = omega arith in ap (λ n. get_or (47 ∷ name) n 0) e);
      no_slash_after = λ k low below e.
          let at : k - length dir ≡ suc (k - (length dir + 1)) = omega (arith, low) in
          no_slash_at name (k - (length dir + 1)) h (omega (arith, long, low, below))
          (sym (get_or-append_right dir (47 ∷ name) (length dir) k 0 refl (omega (arith, low)) ∙ ap (λ n. get_or (47 ∷ name) n 0) at) ∙ e);
    }

top_start : (name : List ℕ) → NoSlash name → IsNameStart name 0
top_start name h = record { within = omega arith; slash_before = λ some. absurd (omega (arith, some)); no_slash_after = λ k low below e. no_slash_at name k h below e }

name-child : (dir name : List ℕ) → NoSlash name → name_of (child_of dir name) ≡ name
name-child [] name h = name_of-start name 0 (top_start name h)
name-child (b ∷ bs) name h =
    let start = length (b ∷ bs) + 1 in
    let cut : (b ∷ bs) ++ 47 ∷ name ≡ ((b ∷ bs) ++ 47 ∷ []) ++ name = sym (append_assoc (b ∷ bs) (47 ∷ []) name) in
    let long : start ≡ length ((b ∷ bs) ++ 47 ∷ []) = sym (length-append (b ∷ bs) (47 ∷ [])) in
    name_of-start (child_of (b ∷ bs) name) start (child_start b bs name h)
    ∙ (λ i. drop (long i) (cut i))
    ∙ drop-append_seam ((b ∷ bs) ++ 47 ∷ []) name

parent-child : (dir name : List ℕ) → name ≢ [] → NoSlash name → parent_of (child_of dir name) ≡ Some dir
parent-child [] [] some h = absurd (some refl)
parent-child [] (n ∷ ns) some h = ap Some (before_last-start (n ∷ ns) 0 (top_start (n ∷ ns) h))
parent-child (b ∷ bs) name some h =
    let up : length (b ∷ bs) + 1 - 1 ≡ length (b ∷ bs) = omega arith in
    ap Some (
    before_last-start (child_of (b ∷ bs) name) (length (b ∷ bs) + 1) (child_start b bs name h)
    ∙ ap (λ n. take n ((b ∷ bs) ++ 47 ∷ name)) up
    ∙ take-append_seam (b ∷ bs) (47 ∷ name))

-- the name of a file with this suffix
abbrev default_name : List ℕ → List ℕ
default_name suffix = codes "default" ++ suffix ++ codes ".do"

default-is : (suffix : List ℕ) → is_default (default_name suffix) ≡ true
default-is suffix = (ends_is Decides-eqb (default_name suffix) (codes ".do") _ refl).1 (codes "default" ++ suffix) refl

default-no_slash : (suffix : List ℕ) → IsPart suffix → NoSlash (default_name suffix)
default-no_slash suffix h =
    AllByRecursion-append (λ byte. is_slash byte ≡ false) (codes "default") (suffix ++ codes ".do") (refl, (refl, (refl, (refl, (refl, (refl, (refl, tt)))))))
    (AllByRecursion-append (λ byte. is_slash byte ≡ false) suffix (codes ".do") h.no_slash (refl, (refl, (refl, tt))))

default-lies : (dir suffix bytes : List ℕ) → IsPart suffix → default_dir (child_of dir (default_name suffix)) (File bytes) ≡ Some dir
default-lies dir suffix bytes h =
    let name = default_name suffix in
    let plain = default-no_slash suffix h in
    ap (λ b. cond b (parent_of (child_of dir name)) None) (ap is_default (name-child dir name plain) ∙ default-is suffix)
    ∙ parent-child dir name (λ e. cc) plain

pub none-noted : (dirs : List (List ℕ)) (tree : Tree) (dir : List ℕ) → NotesDefaults dirs tree → list_any (pointwise nat_eq dir) dirs ≡ false → HasNoDefaults tree dir
none-noted dirs tree dir noted none suffix part =
    let path = child_of dir (default_name suffix) in
    elim (node_at tree path) as (λ o. node_at tree path ≡ o → option_and_then bytes_of o ≡ None) [
      | None ↦ λ at. refl
      | Some Directory ↦ λ at. refl
      | Some (File bytes) ↦ λ at. absurd (true≢false (sym (noted path dir (File bytes) at (default-lies dir suffix bytes part)) ∙ none))
    ] refl

-- ---- the set of noted directories

any-among : (dirs : List (List ℕ)) (dir : List ℕ) → list_any (pointwise nat_eq dir) dirs ≡ true → IsAmong dirs dir
any-among [] dir h = cc
any-among (d ∷ ds) dir h = elim (pointwise nat_eq dir d) as (λ b. pointwise nat_eq dir d ≡ b → (b || list_any (pointwise nat_eq dir) ds) ≡ true → (d ≡ dir) ⊎ IsAmong ds dir) [
  | true ↦ λ e t. inl (sym (same_text dir d (sym e)))
  | false ↦ λ e t. inr (any-among ds dir t)
] refl h

-- a directory that has no number isn't noted
pub unnoted : (dirs : List (List ℕ)) (dir : List ℕ) (o : Option ℕ) → MatchOption o (IsAmong dirs dir → ⊥) (λ n. slice_get dirs n ≡ Some dir) → is_some o ≡ false → list_any (pointwise nat_eq dir) dirs ≡ false
unnoted dirs dir None told none = elim (list_any (pointwise nat_eq dir) dirs) as (λ b. list_any (pointwise nat_eq dir) dirs ≡ b → list_any (pointwise nat_eq dir) dirs ≡ false) [
  | true ↦ λ e. absurd (told (any-among dirs dir e))
  | false ↦ λ e. e
] refl
unnoted dirs dir (Some n) told none = cc
