-- What one turn of reading finds, and what the turns so far make.
use Rattle.std.proofs.Common.{◌≡◌, ℕ, ◌+◌, ◌<◌, ◌≤◌, Bool, true, false, cond, not, List, [], ◌∷◌, ◌++◌, length, refl}
use Rattle.std.proofs.Common.{sym, ap, subst, ◌∙◌, arith, Option, Some, None, nat_lt, le-ltb, append_assoc, append-nil}
use Rattle.std.proofs.Common.{IfSome}
use Rattle.std.proofs.lemmas.Grind.{common_steps, flat_map-append}
use Rattle.std.specs.List.{AllByRecursion}
use Rattle.std.specs.Prelude.{Ok, Err, codes}
use Rattle.std.specs.Str.{bytes_eq}
use Rattle.std.specs.Io.KnownBytes.{Consumes, IsAtEnd, prepend_known}
use Rattle.std.proofs.KnownBytes.{Consumes-trans}
use Rattle.redo_bundle.specs.declared.faults.BundleFault.{BundleFault}
use Rattle.redo_bundle.specs.declared.faults.BundleFault.TheVariants.{Line, Path, Tree as TreeAt, Truncated, Read}
use Rattle.redo_bundle.specs.declared.faults.BundleFault.TheVariants.{Memory}
use Rattle.redo_tree.specs.Tree.{Node, Directory, File, Tree, top, grown}
use Rattle.redo_bundle.specs.Bundle.{is_newline, entry_fault, fault_at, IsEntry, IsHeader, IsRefused, IsRefusedAt, Reads}
use Rattle.redo_bundle.specs.Bundle.{ShowsHeader, spelling, body_of}
use Rattle.redo_bundle.specs.inside.Steps.{Refuses, Shows, IsLine, AddsNext}
use Rattle.redo_tree.proofs.GrowLemmas.{length-added, grown-append}
use Rattle.redo_bundle.proofs.LineLemmas.{IsCut, cut_first}

-- ---- one turn

-- what is wrong behind a header line that was read
abbrev pub fault_behind : ℕ → Tree → List ℕ → List ℕ → Option BundleFault
fault_behind n tree line rest = cond (bytes_eq line (codes "end")) (cond (nat_lt 0 (length rest)) (Some (Line (n + 1))) None) (entry_fault n tree line rest)

pub fault_at-line : (n : ℕ) (tree : Tree) (line rest text : List ℕ) → IsLine line → text ≡ (line ++ 10 ∷ []) ++ rest → fault_at n tree text ≡ fault_behind n tree line rest
fault_at-line n tree line rest text h e =
    let whole : text ≡ line ++ 10 ∷ rest = e ∙ append_assoc line (10 ∷ []) rest in
    let cut = subst (λ t. IsCut is_newline t line rest) (sym whole) (cut_first is_newline line 10 rest h.one refl) in
    (λ i. cond (nat_lt 1100 (length (cut.before i))) (Some (Line n)) (cond (not (cut.some i)) (Some Truncated) (fault_behind n tree (cut.before i) (cut.after i))))
    ∙ ap (λ b. cond b (Some (Line n)) (fault_behind n tree line rest)) (le-ltb 1100 (length line) h.short)

behind_known : (f : BundleFault) (n : ℕ) (tree : Tree) (line : List ℕ) (a b : Option (List ℕ)) → IsLine line → bytes_eq line (codes "end") ≡ false → Consumes a b (line ++ 10 ∷ []) → IfSome b (λ rest. entry_fault n tree line rest ≡ Some f) → IfSome a (λ text. fault_at n tree text ≡ Some f)
behind_known f n tree line None b l e p h = tt
behind_known f n tree line (Some x) None l e p h = absurd p
behind_known f n tree line (Some x) (Some y) l e p h = fault_at-line n tree line y x l p ∙ ap (λ b. cond b (cond (nat_lt 0 (length y)) (Some (Line (n + 1))) None) (entry_fault n tree line y)) e ∙ h

-- what is found behind a header line is what is found at it
pub behind_line : (f : BundleFault) (n : ℕ) (tree : Tree) (line : List ℕ) (a b : Option (List ℕ)) → IsLine line → bytes_eq line (codes "end") ≡ false → Consumes a b (line ++ 10 ∷ []) → Refuses {A = Unit {0}} (Err f) b (entry_fault n tree line) → Refuses {A = Bool} (Err f) a (fault_at n tree)
behind_line Read n tree line a b l e p h = tt
behind_line Memory n tree line a b l e p h = tt
behind_line Truncated n tree line a b l e p h = behind_known Truncated n tree line a b l e p h
behind_line (Line k) n tree line a b l e p h = behind_known (Line k) n tree line a b l e p h
behind_line (Path k f) n tree line a b l e p h = behind_known (Path k f) n tree line a b l e p h
behind_line (TreeAt k f) n tree line a b l e p h = behind_known (TreeAt k f) n tree line a b l e p h

end_known : (n : ℕ) (tree : Tree) (line held : List ℕ) (a left : Option (List ℕ)) → IsLine line → bytes_eq line (codes "end") ≡ true → Consumes a (prepend_known held left) (line ++ 10 ∷ []) → 0 < length held → IfSome a (λ text. fault_at n tree text ≡ Some (Line (n + 1)))
end_known n tree line held None left l e p some = tt
end_known n tree line held (Some x) None l e p some = absurd p
end_known n tree line held (Some x) (Some y) l e p some =
    let more : nat_lt 0 (length (held ++ y)) ≡ true = grind (arith, common_steps) in
    fault_at-line n tree line (held ++ y) x l p ∙ (λ i. cond (e i) (cond (more i) (Some (Line (n + 1))) None) (entry_fault n tree line (held ++ y)))

-- a byte follows the end
pub behind_end : (n : ℕ) (tree : Tree) (line held : List ℕ) (a b left : Option (List ℕ)) → IsLine line → bytes_eq line (codes "end") ≡ true → Consumes a b (line ++ 10 ∷ []) → Consumes b (prepend_known held left) [] → 0 < length held → IfSome a (λ text. fault_at n tree text ≡ Some (Line (n + 1)))
behind_end n tree line held a b left l e p q some = end_known n tree line held a left l e (subst (Consumes a (prepend_known held left)) (append-nil (line ++ 10 ∷ [])) (Consumes-trans a b _ (line ++ 10 ∷ []) [] p q)) some

-- ---- the turns so far

-- these entries were read, before the n-th, and make this tree
pub record Reached (start now : Option (List ℕ)) (tree : Tree) (n : ℕ) : Type 0 where
  pub es : List (List ℕ × Node)
  pub number : length es + 1 ≡ n
  pub entries : AllByRecursion IsEntry es
  pub makes : grown top es ≡ Ok tree
  pub came : Consumes start now (body_of es)

entries-append : (es : List (List ℕ × Node)) (e : List ℕ × Node) → AllByRecursion IsEntry es → IsEntry e → AllByRecursion IsEntry (es ++ e ∷ [])
entries-append [] e h k = (k, tt)
entries-append (x ∷ xs) e h k = (h.0, entries-append xs e h.1 k)

-- before the first entry
pub Reached-first : (start : Option (List ℕ)) (held : List ℕ) (tree : Tree) → held ≡ [] → tree ≡ top → Reached start (prepend_known held start) tree (length tree)
Reached-first start held tree none only = record {
  es = [];
  number = ap length (sym only);
  entries = tt;
  makes = ap Ok (sym only);
  came = elim start as (λ o. Consumes o (prepend_known held o) []) [ None ↦ tt | Some text ↦ sym (ap (λ h. h ++ text) none) ];
}

pub Reached-next : (start b c : Option (List ℕ)) (old new : Tree) → Reached start b old (length old) → AddsNext old new b c → Reached start c new (length new)
Reached-next start b c old new r h =
    let (e, fit, adds, p) = h in
    record {
      es = r.es ++ e ∷ [];
      number = let l = r.number in let m = length-added old new e.0 e.1 adds in grind (arith, common_steps);
      entries = entries-append r.es e r.entries fit;
      makes = grown-append top old new r.es e r.makes adds;
      came = subst (Consumes start c) (sym (flat_map-append spelling r.es (e ∷ []) ∙ ap (λ l. body_of r.es ++ l) (append-nil (spelling e)))) (Consumes-trans start b c (body_of r.es) (spelling e) r.came p);
    }

pub two_bytes : (e : List ℕ × Node) → 2 ≤ length (spelling e)
two_bytes (path, Directory) = omega arith
two_bytes (path, File bytes) = omega arith

-- ---- the answer

-- the end was read
pub reads_all : (start b c : Option (List ℕ)) (tree : Tree) (n : ℕ) → Reached start b tree n → Consumes b c (codes "end\n") → IsAtEnd c → IfSome start (λ text. Reads (Ok tree) text)
reads_all None b c tree n r p q = tt
reads_all (Some x) None c tree n r p q = absurd r.came
reads_all (Some x) (Some y) None tree n r p q = absurd p
reads_all (Some x) (Some y) (Some z) tree n r p q = (
  r.es,
  record {
    entries = r.entries;
    whole = r.came ∙ ap (λ l. body_of r.es ++ l) (p ∙ ap (λ l. codes "end\n" ++ l) q ∙ append-nil (codes "end\n"));
    makes = r.makes;
  },
)

pub nothing_held : (held : List ℕ) (left : Option (List ℕ)) → held ≡ [] → IsAtEnd left → IsAtEnd (prepend_known held left)
nothing_held held None e h = tt
nothing_held held (Some y) e h = ap (λ l. l ++ y) e ∙ h

refused : (x y : List ℕ) (tree : Tree) (n : ℕ) (f : BundleFault) → Reached (Some x) (Some y) tree n → fault_at n tree y ≡ Some f → IsRefused x f
refused x y tree n f r h =
    (r.es, tree, y, record { entries = r.entries; whole = r.came; makes = r.makes }, ap (λ k. fault_at k tree y) r.number ∙ h)

-- a fault was found
pub reads_fault : (f : BundleFault) (start b : Option (List ℕ)) (tree : Tree) (n : ℕ) → Reached start b tree n → Refuses {A = Bool} (Err f) b (fault_at n tree) → IfSome start (λ text. Reads (Err f) text)
reads_fault f None b tree n r h = tt
reads_fault f (Some x) None tree n r h = absurd r.came
reads_fault Read (Some x) (Some y) tree n r h = tt
reads_fault Memory (Some x) (Some y) tree n r h = tt
reads_fault Truncated (Some x) (Some y) tree n r h = refused x y tree n Truncated r h
reads_fault (Line k) (Some x) (Some y) tree n r h = refused x y tree n (Line k) r h
reads_fault (Path k f) (Some x) (Some y) tree n r h = refused x y tree n (Path k f) r h
reads_fault (TreeAt k f) (Some x) (Some y) tree n r h = refused x y tree n (TreeAt k f) r h

refused_at : (x y : List ℕ) (tree : Tree) (n : ℕ) (f : BundleFault) (line : List ℕ) → Reached (Some x) (Some y) tree n → fault_at n tree y ≡ Some f → IsHeader y line → IsRefusedAt x f line
refused_at x y tree n f line r h l =
    (r.es, tree, y, record { entries = r.entries; whole = r.came; makes = r.makes }, ap (λ k. fault_at k tree y) r.number ∙ h, l)

-- a fault was found at this header
pub shows_header : (f : BundleFault) (start b : Option (List ℕ)) (tree : Tree) (n : ℕ) (line : List ℕ) → Reached start b tree n → Refuses {A = Bool} (Err f) b (fault_at n tree) → Shows {A = Bool} (Err f) b line → IfSome start (λ text. ShowsHeader (Err f) line text)
shows_header f None b tree n line r h l = tt
shows_header f (Some x) None tree n line r h l = absurd r.came
shows_header Read (Some x) (Some y) tree n line r h l = tt
shows_header Memory (Some x) (Some y) tree n line r h l = tt
shows_header Truncated (Some x) (Some y) tree n line r h l = refused_at x y tree n Truncated line r h l
shows_header (Line k) (Some x) (Some y) tree n line r h l = refused_at x y tree n (Line k) line r h l
shows_header (Path k f) (Some x) (Some y) tree n line r h l = refused_at x y tree n (Path k f) line r h l
shows_header (TreeAt k f) (Some x) (Some y) tree n line r h l = refused_at x y tree n (TreeAt k f) line r h l

-- an entry that was read is one more in the tree
pub longer : (b c : Option (List ℕ)) (old new : Tree) → AddsNext old new b c → length new ≡ length old + 1
longer b c old new h = length-added old new h.0.0 h.0.1 h.2
