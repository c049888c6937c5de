-- A text is read in one way at most.
use Rattle.std.proofs.Common.{◌≡◌, ℕ, ◌+◌, List, [], ◌∷◌, ◌++◌, length, refl, sym, ap, subst, ◌∙◌, arith, Option, Some}
use Rattle.std.proofs.Common.{None, append_assoc, IfSome}
use Rattle.std.specs.List.{AllByRecursion}
use Rattle.std.specs.Prelude.{Result, Ok, Err, codes}
use Rattle.redo_tree.proofs.GrowLemmas.{onward}
use Rattle.redo_path.proofs.ApartLemmas.{apart}
use Rattle.redo_bundle.specs.declared.faults.BundleFault.{BundleFault}
use Rattle.redo_bundle.specs.declared.faults.BundleFault.TheVariants.{Line, Path, Tree as TreeAt, Truncated, Read}
use Rattle.redo_bundle.specs.declared.faults.BundleFault.TheVariants.{Memory}
use Rattle.redo_tree.specs.declared.faults.TreeFault.{TreeFault}
use Rattle.redo_tree.specs.Tree.{Node, Directory, File, Tree, top, added}
use Rattle.redo_bundle.specs.Bundle.{IsBundle, IsEntry, IsRefused, Reads, ReadsEach, body_of, fault_at, spelling}
use Rattle.redo_tree.specs.Tree.{grown}
use Rattle.redo_bundle.proofs.SpelledLemmas.{spelled-same, no_fault}

-- what comes after entries that made a tree: the end, or a fault
abbrev pub Ends : ℕ → Tree → List ℕ → Result Tree BundleFault → Type 0
Ends n tree rest (Ok made) = (tree ≡ made) × (rest ≡ codes "end\n")
Ends n tree rest (Err fault) = fault_at n tree rest ≡ Some fault

-- a text that was read, from entry n on and over a tree, and what was made of it
pub record Reading (n : ℕ) (start : Tree) (text : List ℕ) (es : List (List ℕ × Node)) (made : Result Tree BundleFault) : Type 0 where
  pub tree : Tree
  pub rest : List ℕ
  pub entries : AllByRecursion IsEntry es
  pub makes : grown start es ≡ Ok tree
  pub whole : text ≡ body_of es ++ rest
  pub ends : Ends (length es + n) tree rest made

-- the tree that the first entry makes, and the others make the rest of
record First (start : Tree) (e : List ℕ × Node) (es : List (List ℕ × Node)) (tree : Tree) : Type 0 where
  next : Tree
  adds : added start e.0 e.1 ≡ Ok next
  makes : grown next es ≡ Ok tree

first_of : (start tree : Tree) (e : List ℕ × Node) (es : List (List ℕ × Node)) → grown start (e ∷ es) ≡ Ok tree → First start e es tree
first_of start tree e es h =
    elim (added start e.0 e.1) as (λ r. added start e.0 e.1 ≡ r → onward es r ≡ Ok tree → First start e es tree) [
      | Ok next ↦ λ a g. record { next = next; adds = a; makes = g }
      | Err fault ↦ λ a g. apart cc
    ] refl h

no_end_first : (path : List ℕ) (node : Node) (rest : List ℕ) → codes "end\n" ≡ spelling (path, node) ++ rest → ⊥
no_end_first path Directory rest e = cc
no_end_first path (File bytes) rest e = cc

no_fault_twice : (o : Option BundleFault) (fault : BundleFault) → o ≡ None → o ≡ Some fault → ⊥
no_fault_twice o fault e h = let k : None ≡ Some fault = sym e ∙ h in cc

-- what stops here doesn't begin with an entry that the tree takes
stops : (n : ℕ) (start next : Tree) (e : List ℕ × Node) (text rest : List ℕ) (made : Result Tree BundleFault) → IsEntry e → added start e.0 e.1 ≡ Ok next → text ≡ spelling e ++ rest → Ends n start text made → ⊥
stops n start next e text rest (Ok made) h adds whole ends = no_end_first e.0 e.1 rest (sym ends.1 ∙ whole)
stops n start next e text rest (Err fault) h adds whole ends = no_fault_twice _ fault (ap (fault_at n start) whole ∙ no_fault n start next e rest h adds) ends

at_the_end : (n : ℕ) (tree : Tree) → fault_at n tree (codes "end\n") ≡ None
at_the_end n tree = refl

-- one place has one end
same_end : (n : ℕ) (tree : Tree) (rest : List ℕ) (made other : Result Tree BundleFault) → Ends n tree rest made → Ends n tree rest other → made ≡ other
same_end n tree rest (Ok made) (Ok other) h k = ap Ok (sym h.0 ∙ k.0)
same_end n tree rest (Ok made) (Err fault) h k = absurd (no_fault_twice _ fault (ap (fault_at n tree) h.1 ∙ at_the_end n tree) k)
same_end n tree rest (Err fault) (Ok other) h k = absurd (no_fault_twice _ fault (ap (fault_at n tree) k.1 ∙ at_the_end n tree) h)
same_end n tree rest (Err fault) (Err other) h k = let e : Some fault ≡ Some other = sym h ∙ k in cc

-- the reading behind the first entry
behind : (n : ℕ) (start : Tree) (text : List ℕ) (e : List ℕ × Node) (es : List (List ℕ × Node)) (made : Result Tree BundleFault) (r : Reading n start text (e ∷ es) made)
    → Reading (n + 1) (first_of start r.tree e es r.makes).next (body_of es ++ r.rest) es made
behind n start text e es made r =
    let number : length (e ∷ es) + n ≡ length es + (n + 1) = omega arith in
    record {
      tree = r.tree;
      rest = r.rest;
      entries = r.entries.1;
      makes = (first_of start r.tree e es r.makes).makes;
      whole = refl;
      ends = subst (λ k. Ends k r.tree r.rest made) number r.ends;
    }

cut_entry : (e : List ℕ × Node) (es : List (List ℕ × Node)) (rest : List ℕ) → body_of (e ∷ es) ++ rest ≡ spelling e ++ (body_of es ++ rest)
cut_entry e es rest = append_assoc (spelling e) (body_of es) rest

-- a reading without entries ends at once
here : (n : ℕ) (start : Tree) (text : List ℕ) (made : Result Tree BundleFault) → Reading n start text [] made → Ends n start text made
here n start text made r =
    let same : start ≡ r.tree = let e = r.makes in cc in
    let number : length {A = List ℕ × Node} [] + n ≡ n = omega arith in
    subst (λ t. Ends n t text made) (sym same) (subst (λ l. Ends n r.tree l made) (sym r.whole) (subst (λ k. Ends k r.tree r.rest made) number r.ends))

never_here : (n : ℕ) (start : Tree) (text : List ℕ) (e : List ℕ × Node) (es : List (List ℕ × Node)) (made other : Result Tree BundleFault) → Reading n start text (e ∷ es) made → Reading n start text [] other → ⊥
never_here n start text e es made other r s =
    let first = first_of start r.tree e es r.makes in
    stops n start first.next e text (body_of es ++ r.rest) other r.entries.0 first.adds (r.whole ∙ cut_entry e es r.rest) (here n start text other s)

-- two readings of one text make the same of it
pub read_once : (n : ℕ) (start : Tree) (text : List ℕ) (es fs : List (List ℕ × Node)) (made other : Result Tree BundleFault) → Reading n start text es made → Reading n start text fs other → made ≡ other
read_once n start text [] [] made other r s = same_end n start text made other (here n start text made r) (here n start text other s)
read_once n start text [] (f ∷ fs) made other r s = absurd (never_here n start text f fs other made s r)
read_once n start text (e ∷ es) [] made other r s = absurd (never_here n start text e es made other r s)
read_once n start text (e ∷ es) (f ∷ fs) made other r s =
    let one = first_of start r.tree e es r.makes in
    let two = first_of start s.tree f fs s.makes in
    let same = spelled-same e f (body_of es ++ r.rest) (body_of fs ++ s.rest) r.entries.0 s.entries.0 (sym (cut_entry e es r.rest) ∙ sym r.whole ∙ s.whole ∙ cut_entry f fs s.rest) in
    let next : one.next ≡ two.next =
    let k : ◌≡◌ {A = Result Tree TreeFault} (Ok one.next) (Ok two.next) = sym one.adds ∙ ap (λ g. added start g.0 g.1) same.entry ∙ two.adds in cc in
    read_once (n + 1) two.next (body_of fs ++ s.rest) es fs made other
    (subst (λ t. Reading (n + 1) t (body_of fs ++ s.rest) es made) next (subst (λ l. Reading (n + 1) one.next l es made) same.rest (behind n start text e es made r)))
    (behind n start text f fs other s)

-- ---- as bundles and refusals

pub bundle_reading : (text : List ℕ) (tree : Tree) → IsBundle text tree → (es : List (List ℕ × Node)) × Reading 1 top text es (Ok tree)
bundle_reading text tree h = (h.0, record { tree = tree; rest = codes "end\n"; entries = h.1.entries; makes = h.1.makes; whole = h.1.whole; ends = (refl, refl) })

pub refused_reading : (text : List ℕ) (fault : BundleFault) → IsRefused text fault → (es : List (List ℕ × Node)) × Reading 1 top text es (Err fault)
refused_reading text fault h = (h.0, record { tree = h.1; rest = h.2; entries = h.3.entries; makes = h.3.makes; whole = h.3.whole; ends = h.4 })

pub one_tree : (text : List ℕ) (tree other : Tree) → IsBundle text tree → IsBundle text other → tree ≡ other
one_tree text tree other h k =
    let r = bundle_reading text tree h in
    let s = bundle_reading text other k in
    let same : ◌≡◌ {A = Result Tree BundleFault} (Ok tree) (Ok other) = read_once 1 top text r.0 s.0 (Ok tree) (Ok other) r.1 s.1 in cc

pub never_both : (text : List ℕ) (tree : Tree) (fault : BundleFault) → IsBundle text tree → IsRefused text fault → ⊥
never_both text tree fault h k =
    let r = bundle_reading text tree h in
    let s = refused_reading text fault k in
    let same : ◌≡◌ {A = Result Tree BundleFault} (Ok tree) (Err fault) = read_once 1 top text r.0 s.0 (Ok tree) (Err fault) r.1 s.1 in cc

pub one_fault : (text : List ℕ) (fault other : BundleFault) → IsRefused text fault → IsRefused text other → fault ≡ other
one_fault text fault other h k =
    let r = refused_reading text fault h in
    let s = refused_reading text other k in
    let same : ◌≡◌ {A = Result Tree BundleFault} (Err fault) (Err other) = read_once 1 top text r.0 s.0 (Err fault) (Err other) r.1 s.1 in cc

-- ---- an answer that is right is the only one

pub reads_each : (made : Result Tree BundleFault) (left : Option (List ℕ)) → IfSome left (λ text. Reads made text) → IfSome left (λ text. ReadsEach made text)
reads_each made None h = tt
reads_each (Ok tree) (Some text) h = λ other k. one_tree text other tree k h
reads_each (Err Read) (Some text) h = tt
reads_each (Err Memory) (Some text) h = tt
reads_each (Err Truncated) (Some text) h = λ other k. never_both text other Truncated k h
reads_each (Err (Line n)) (Some text) h = λ other k. never_both text other (Line n) k h
reads_each (Err (Path n fault)) (Some text) h = λ other k. never_both text other (Path n fault) k h
reads_each (Err (TreeAt n fault)) (Some text) h = λ other k. never_both text other (TreeAt n fault) k h
