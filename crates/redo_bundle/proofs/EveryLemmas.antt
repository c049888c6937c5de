-- A text is read to its end, or to its first fault.
use Rattle.std.proofs.Common.{◌≡◌, ◌≢◌, ℕ, ◌+◌, ◌<◌, ◌≤◌, Bool, true, false, cond, not, List, [], ◌∷◌, ◌++◌, length}
use Rattle.std.proofs.Common.{take, drop, zero, suc, refl, sym, ap, subst, ◌∙◌, arith, Option, Some, None, nat_lt}
use Rattle.std.proofs.Common.{nat_le, append_assoc, take-append-drop, ◌⊎◌, inl, inr}
use Rattle.std.proofs.lemmas.Grind.{common_steps}
use Rattle.std.specs.List.{list_any, before_first, after_first}
use Rattle.std.specs.Option.{option_or}
use Rattle.std.specs.Prelude.{Result, Ok, Err, codes, slice_index}
use Rattle.std.specs.Str.{bytes_eq}
use Rattle.redo_tree.proofs.GrowLemmas.{onward}
use Rattle.redo_path.proofs.ApartLemmas.{apart}
use Rattle.redo_path.specs.declared.PathFault.{PathFault}
use Rattle.redo_path.specs.Names.{IsBelowRoot, IsPath}
use Rattle.redo_path.specs.Resolve.{resolved}
use Rattle.redo_path.proofs.CanonicalLemmas.{path-resolved}
use Rattle.redo_bundle.specs.declared.faults.BundleFault.{BundleFault}
use Rattle.redo_bundle.specs.declared.faults.BundleFault.TheVariants.{Line, Path, Tree as TreeAt, Truncated}
use Rattle.redo_tree.specs.declared.faults.TreeFault.{TreeFault}
use Rattle.redo_tree.specs.Tree.{Node, Directory, File, Tree, top, added}
use Rattle.redo_bundle.specs.Bundle.{IsBundleOrRefused, IsEntry, is_newline, header_of, path_fault, tree_fault}
use Rattle.redo_bundle.specs.Bundle.{body_fault, entry_fault, fault_at, body_of, spelling}
use Rattle.redo_bundle.proofs.BodyLemmas.{header_dir, header_file_is, same_bytes, spelled}
use Rattle.redo_bundle.proofs.LineLemmas.{drop-cons-one, newline_is, split_first}
use Rattle.redo_bundle.proofs.OnceLemmas.{Ends, Reading}
use Rattle.redo_bundle.proofs.TurnLemmas.{two_bytes}
use borrow.Author.Tests.{ltb-false}

-- ---- what a text begins with, in which no fault is found

-- an entry, which the tree takes
record Next (tree : Tree) (text : List ℕ) : Type 0 where
  e : List ℕ × Node
  next : Tree
  rest : List ℕ
  fits : IsEntry e
  adds : added tree e.0 e.1 ≡ Ok next
  whole : text ≡ spelling e ++ rest

no_fault_yet : (b : Bool) (fault : BundleFault) (o : Option BundleFault) → cond b (Some fault) o ≡ None → (b ≡ false) × (o ≡ None)
no_fault_yet true fault o h = apart cc
no_fault_yet false fault o h = (refl, h)

neither : (a b : Option BundleFault) → option_or a b ≡ None → (a ≡ None) × (b ≡ None)
neither None b h = (refl, h)
neither (Some fault) b h = apart cc

was_true : (b : Bool) → not b ≡ false → b ≡ true
was_true true h = refl
was_true false h = cc

-- the tree took it
taken : (n : ℕ) (tree : Tree) (path : List ℕ) (node : Node) → tree_fault n tree path node ≡ None → (next : Tree) × (added tree path node ≡ Ok next)
taken n tree path node h =
    elim (added tree path node) as (λ (r : Result Tree TreeFault). added tree path node ≡ r → elim r [ Ok next ↦ None | Err fault ↦ Some (TreeAt n fault) ] ≡ None → (next : Tree) × (added tree path node ≡ Ok next)) [
      | Ok next ↦ λ e k. (next, e)
      | Err fault ↦ λ e k. apart cc
    ] refl h

root_path : IsPath []
root_path = record { each = tt; short = omega arith }

meant_path : (n : ℕ) (path meant : List ℕ) (same : Bool) → bytes_eq meant path ≡ same → resolved [] path ≡ Ok meant → cond same None (Some (Line n)) ≡ None → resolved [] path ≡ Ok path
meant_path n path meant true e r h = r ∙ ap Ok (same_bytes meant path e)
meant_path n path meant false e r h = apart cc

abbrev meant_fault : ℕ → List ℕ → Result (List ℕ) PathFault → Option BundleFault
meant_fault n path (Ok meant) = cond (bytes_eq meant path) None (Some (Line n))
meant_fault n path (Err fault) = Some (Path n fault)

names_as : (n : ℕ) (path : List ℕ) (r : Result (List ℕ) PathFault) → resolved [] path ≡ r → meant_fault n path r ≡ None → resolved [] path ≡ Ok path
names_as n path (Ok meant) e h = meant_path n path meant (bytes_eq meant path) refl e h
names_as n path (Err fault) e h = apart cc

names_itself : (n : ℕ) (path : List ℕ) → path_fault n path ≡ None → resolved [] path ≡ Ok path
names_itself n path h = names_as n path (resolved [] path) refl h

not_the_root : (n : ℕ) (path : List ℕ) → path_fault n path ≡ None → path ≢ []
not_the_root n [] h e = apart cc
not_the_root n (b ∷ bs) h e = cc

-- a path below the root
place : (n : ℕ) (path : List ℕ) → path_fault n path ≡ None → IsBelowRoot path
place n path h = (not_the_root n path h, path-resolved [] path path root_path (names_itself n path h))

directory_next : (n : ℕ) (tree : Tree) (text line path rest : List ℕ) → text ≡ line ++ 10 ∷ rest → header_of line ≡ Some (None, path) → IsBelowRoot path → tree_fault n tree path Directory ≡ None → Next tree text
directory_next n tree text line path rest whole header at h =
    let t = taken n tree path Directory h in
    record {
      e = (path, Directory);
      next = t.0;
      rest = rest;
      fits = (at.0, at.1, tt);
      adds = t.1;
      whole = whole ∙ ap (λ l. l ++ 10 ∷ rest) (header_dir line path header) ∙ sym (append_assoc (codes "dir " ++ path) (10 ∷ []) rest);
    }

long_enough : (n size : ℕ) (rest : List ℕ) (o : Option BundleFault) → cond (nat_le (length rest) size) (Some Truncated) o ≡ None → (size < length rest) × (o ≡ None)
long_enough n size rest o h =
    let k = no_fault_yet (nat_le (length rest) size) Truncated o h in
    (let short = k.0 in grind (arith, common_steps), k.1)

ends_line : (n : ℕ) (b : Bool) (o : Option BundleFault) → cond b o (Some (Line n)) ≡ None → (b ≡ true) × (o ≡ None)
ends_line n true o h = (refl, h)
ends_line n false o h = apart cc

file_next : (n : ℕ) (tree : Tree) (text line path rest : List ℕ) (size : ℕ) → text ≡ line ++ 10 ∷ rest → header_of line ≡ Some (Some size, path) → IsBelowRoot path → body_fault n tree (Some size) path rest ≡ None → Next tree text
file_next n tree text line path rest size whole header at h =
    let long = long_enough n size rest _ h in
    let newline = ends_line n (is_newline (slice_index rest size)) (tree_fault n tree path (File (take size rest))) long.1 in
    let t = taken n tree path (File (take size rest)) newline.1 in
    let bytes = take size rest in
    let more = drop (size + 1) rest in
    let l : length bytes ≡ size = let k = long.0 in grind (arith, common_steps) in
    let said = header_file_is line path size header in
    let body : rest ≡ bytes ++ 10 ∷ more = sym (take-append-drop size rest) ∙ ap (λ l. bytes ++ l) (drop-cons-one rest size long.0 ∙ ap (λ x. x ∷ more) (newline_is _ newline.0)) in
    record {
      e = (path, File bytes);
      next = t.0;
      rest = more;
      fits = (at.0, at.1, omega (arith, said.1));
      adds = t.1;
      whole = whole ∙ ap (λ r. line ++ 10 ∷ r) body
          ∙ sym (ap (λ l. l ++ more) (spelled line path bytes size said.0 l) ∙ append_assoc line (10 ∷ (bytes ++ 10 ∷ [])) more ∙ ap (λ r. line ++ 10 ∷ r) (append_assoc bytes (10 ∷ []) more));
    }

header_next : (n : ℕ) (tree : Tree) (text line rest : List ℕ) (header : Option ℕ × List ℕ) → text ≡ line ++ 10 ∷ rest → header_of line ≡ Some header → IsBelowRoot header.1 → body_fault n tree header.0 header.1 rest ≡ None → Next tree text
header_next n tree text line rest (None, path) whole header at h = directory_next n tree text line path rest whole header at h
header_next n tree text line rest (Some size, path) whole header at h = file_next n tree text line path rest size whole header at h

abbrev header_fault : ℕ → Tree → List ℕ → Option (Option ℕ × List ℕ) → Option BundleFault
header_fault n tree rest None = Some (Line n)
header_fault n tree rest (Some header) = option_or (path_fault n header.1) (body_fault n tree header.0 header.1 rest)

said_next : (n : ℕ) (tree : Tree) (text line rest : List ℕ) (said : Option (Option ℕ × List ℕ)) → text ≡ line ++ 10 ∷ rest → header_of line ≡ said → header_fault n tree rest said ≡ None → Next tree text
said_next n tree text line rest None whole e h = apart cc
said_next n tree text line rest (Some header) whole e h =
    let both = neither (path_fault n header.1) (body_fault n tree header.0 header.1 rest) h in
    header_next n tree text line rest header whole e (place n header.1 both.0) both.1

entry_next : (n : ℕ) (tree : Tree) (text line rest : List ℕ) → text ≡ line ++ 10 ∷ rest → entry_fault n tree line rest ≡ None → Next tree text
entry_next n tree text line rest whole h = said_next n tree text line rest (header_of line) whole refl h

nothing_left : (rest : List ℕ) → nat_lt 0 (length rest) ≡ false → rest ≡ []
nothing_left [] h = refl
nothing_left (b ∷ bs) h = absurd (let l = ltb-false 0 (length (b ∷ bs)) h in omega arith)

line_next : (n : ℕ) (tree : Tree) (text line rest : List ℕ) (is_end : Bool) → bytes_eq line (codes "end") ≡ is_end → text ≡ line ++ 10 ∷ rest
    → cond is_end (cond (nat_lt 0 (length rest)) (Some (Line (n + 1))) None) (entry_fault n tree line rest) ≡ None → (text ≡ codes "end\n") ⊎ Next tree text
line_next n tree text line rest true e whole h =
    let none = nothing_left rest (no_fault_yet (nat_lt 0 (length rest)) (Line (n + 1)) None h).0 in
    inl (whole ∙ (λ i. same_bytes line (codes "end") e i ++ 10 ∷ none i))
line_next n tree text line rest false e whole h = inr (entry_next n tree text line rest whole h)

-- a text in which no fault is found is the end, or begins with an entry
next_of : (n : ℕ) (tree : Tree) (text : List ℕ) → fault_at n tree text ≡ None → (text ≡ codes "end\n") ⊎ Next tree text
next_of n tree text h =
    let line = before_first is_newline text in
    let rest = after_first is_newline text in
    let short = no_fault_yet (nat_lt 1100 (length line)) (Line n) _ h in
    let some = no_fault_yet (not (list_any is_newline text)) Truncated _ short.1 in
    line_next n tree text line rest (bytes_eq line (codes "end")) refl (split_first is_newline 10 newline_is text (was_true _ some.0)) some.1

-- ---- a whole text

-- a text, read as far as it goes
record Read (n : ℕ) (start : Tree) (text : List ℕ) : Type 0 where
  es : List (List ℕ × Node)
  made : Result Tree BundleFault
  reading : Reading n start text es made

with_entry : (n : ℕ) (start : Tree) (text : List ℕ) (one : Next start text) → Read (n + 1) one.next one.rest → Read n start text
with_entry n start text one more =
    let r = more.reading in
    let number : length more.es + (n + 1) ≡ length (one.e ∷ more.es) + n = omega arith in
    record {
      es = one.e ∷ more.es;
      made = more.made;
      reading = record {
        tree = r.tree;
        rest = r.rest;
        entries = (one.fits, r.entries);
        makes = ap (onward more.es) one.adds ∙ r.makes;
        whole = one.whole ∙ ap (λ l. spelling one.e ++ l) r.whole ∙ sym (append_assoc (spelling one.e) (body_of more.es) r.rest);
        ends = subst (λ k. Ends k r.tree r.rest more.made) number r.ends;
      };
    }

shorter : (start : Tree) (text : List ℕ) (one : Next start text) → length one.rest < length text
shorter start text one =
    let l = two_bytes one.e in
    let k : length (spelling one.e ++ one.rest) ≡ length (spelling one.e) + length one.rest = grind (arith, common_steps) in
    omega (arith, ap length one.whole)

no_entries : (n : ℕ) (start : Tree) (text : List ℕ) (made : Result Tree BundleFault) → Ends n start text made → Read n start text
no_entries n start text made h =
    let number : n ≡ length {A = List ℕ × Node} [] + n = omega arith in
    record {
      es = [];
      made = made;
      reading = record { tree = start; rest = text; entries = tt; makes = refl; whole = refl; ends = subst (λ k. Ends k start text made) number h };
    }

-- on by one entry, or to the end
turn : (n : ℕ) (start : Tree) (text : List ℕ) → ((one : Next start text) → Read (n + 1) one.next one.rest) → Read n start text
turn n start text on =
    elim (fault_at n start text) as (λ o. fault_at n start text ≡ o → Read n start text) [
      | Some fault ↦ λ e. no_entries n start text (Err fault) e
      | None ↦ λ e. elim (next_of n start text e) [
        | inl whole ↦ no_entries n start text (Ok start) (refl, whole)
        | inr one ↦ with_entry n start text one (on one)
      ]
    ] refl

read_all : (k n : ℕ) (start : Tree) (text : List ℕ) → length text ≤ k → Read n start text
read_all zero n start text l = turn n start text (λ one. absurd (omega (arith, shorter start text one)))
read_all (suc k) n start text l = turn n start text (λ one. read_all k (n + 1) one.next one.rest (omega (arith, shorter start text one)))

bundle_or_refused : (text : List ℕ) (es : List (List ℕ × Node)) (made : Result Tree BundleFault) → Reading 1 top text es made → IsBundleOrRefused text
bundle_or_refused text es (Ok tree) r =
    inl (tree, (es, record { entries = r.entries; whole = r.whole ∙ ap (λ l. body_of es ++ l) r.ends.1; makes = r.makes ∙ ap Ok r.ends.0 }))
bundle_or_refused text es (Err fault) r =
    inr (fault, (es, r.tree, r.rest, record { entries = r.entries; whole = r.whole; makes = r.makes }, r.ends))

pub each_text : (text : List ℕ) → IsBundleOrRefused text
each_text text = let r = read_all (length text) 1 top text (omega arith) in bundle_or_refused text r.es r.made r.reading
