-- Rows as nodes: kinds by number, one row more at a time, and groups of them.
use Rattle.std.proofs.Common.{◌≡◌, ◌∙◌, ◌+◌, ◌<◌, ℕ, zero, suc, List, [], ◌∷◌, ◌++◌, Option, Some, None, refl, sym, ap, subst}
use Rattle.std.proofs.Common.{arith, inl, inr, length, slice_index_or, take}
use Rattle.std.proofs.Common.{◌⊎◌, cond, filter_map, length-append}
use Rattle.std.proofs.lemmas.Bool.{cases_Bool}
use Rattle.std.proofs.lemmas.List.{take_more}
use Rattle.std.proofs.lemmas.Option.{slice_get_within}
use Rattle.std.specs.Arc.{arc_value}
use Rattle.std.specs.Map.{lookup}
use Rattle.std.specs.Result.{OnOk}
use Rattle.std.proofs.Common.{Err, Ok, Result}
use Rattle.std.specs.List.{cons_option}
use Rattle.std.specs.Prelude.{Contains, bytes_eq, slice_get}
use Rattle.redo_alike.specs.Alike.{IsGraph, kind_of, needs_of}
use Rattle.redo_alike.specs.declared.graph.Kind.{Kind}
use Rattle.redo_alike.specs.declared.graph.Node.{Node}
use Rattle.redo_names.specs.Paths.{is_among, with_path}
use Rattle.redo_path.specs.Names.{parent_of}
use Rattle.redo_record.specs.Progress.{changes}
use Rattle.redo_report.specs.declared.report.Row.{Row}
use Rattle.redo_told.specs.Rows.{rule_in}
use Rattle.redo_page.specs.Grouping.{AreNodes, IsNode}
use Rattle.redo_page.specs.Pages.{Known, numbered, row_of}
use Rattle.redo_page.specs.inside.Grouping.{AreSeen, Grows, GrowsTo, IsKindOf, IsNumberOf}
use Rattle.redo_page.specs.declared.grouping.Seen.{Seen}

-- what a list has at a place stays there when more follows
pub slice_get-more : {X : Type 0} (xs ys : List X) (n : ℕ) (x : X) → slice_get xs n ≡ Some x → slice_get (xs ++ ys) n ≡ Some x
slice_get-more [] ys n x is = absurd (cc)
slice_get-more (y ∷ xs) ys zero x is = is
slice_get-more (y ∷ xs) ys (suc n) x is = slice_get-more xs ys n x is

some-same : {X : Type 0} (x y : X) → Some x ≡ Some y → x ≡ y
some-same x y is = cc

-- two numbers of one set that are the same are of the same path
pub same-number : (paths : List (List ℕ)) (one two : Option (List ℕ)) (m n : ℕ) → IsNumberOf paths one m →
    IsNumberOf paths two n → m ≡ n → one ≡ two
same-number paths None None m n is also same = refl
same-number paths None (Some q) m n is also same = absurd (omega (arith, is, also.1, same))
same-number paths (Some p) None m n is also same = absurd (omega (arith, is.1, also, same))
same-number paths (Some p) (Some q) m n is also same =
    let places : is.0 ≡ also.0 = omega (arith, is.1, also.1, same) in
    sym is.2 ∙ ap (slice_get paths) places ∙ also.2

-- a set with one path more keeps each number
pub grows-with : (paths : List (List ℕ)) (p : List ℕ) → Grows paths (with_path paths p)
grows-with paths p = λ n q at. elim (cases_Bool (is_among paths p)) [
  | inl t ↦ rw t at
  | inr f ↦ rw f (slice_get-more paths (p ∷ []) n q at)
]

number-on : (old new : List (List ℕ)) (path : Option (List ℕ)) (n : ℕ) → Grows old new → IsNumberOf old path n → IsNumberOf new path n
number-on old new None n grows is = is
number-on old new (Some p) n grows is = (is.0, is.1, grows is.0 p is.2)

kind-on : (known : Known) (a b : Seen) (row : Row) (kind : Kind) → GrowsTo a b → IsKindOf a known row kind → IsKindOf b known row kind
kind-on known a b row kind grows is = record {
  rule = number-on a.rules b.rules (rule_in (arc_value row.deps)) kind.rule grows.rules is.rule;
  directory = number-on a.directories b.directories (parent_of row.path) kind.directory grows.directories is.directory;
  outcome = is.outcome;
}

-- what stands at a place of a list with one more is one of those before, or the last
last-or : {X : Type 0} (xs : List X) (x : X) (n : ℕ) (y : X) → slice_get (xs ++ x ∷ []) n ≡ Some y →
    (slice_get xs n ≡ Some y) ⊎ ((n ≡ length xs) × (x ≡ y))
last-or [] x zero y is = inr (refl, some-same x y is)
last-or [] x (suc n) y is = absurd (cc)
last-or (z ∷ xs) x zero y is = inl is
last-or (z ∷ xs) x (suc n) y is =
    elim (last-or xs x n y is) [
      | inl had ↦ inl had
      | inr new ↦ inr (ap suc new.0, new.1)
    ]

-- one row more was seen
pub seen-more : (known : Known) (rows : List Row) (i : ℕ) (x : Row) (a b : Seen) (node : Node) → i < length rows →
    x ≡ slice_index_or rows i x → GrowsTo a b → b.nodes.items ≡ a.nodes.items ++ node ∷ [] → IsNode known x node →
    IsKindOf b known x node.kind → AreSeen known (take i rows) a → AreSeen known (take (i + 1) rows) b
seen-more known rows i x a b node within is grows added one kind seen =
    let front = take i rows in
    let more : take (i + 1) rows ≡ front ++ x ∷ [] = take_more rows i x within ∙ ap (λ y. front ++ y ∷ []) (sym is) in
    let long : length b.nodes.items ≡ length (front ++ x ∷ []) =
    omega (arith, ap length added, length-append a.nodes.items (node ∷ []), length-append front (x ∷ []), seen.many) in
    let each : (n : ℕ) (row : Row) (nd : Node) → slice_get (front ++ x ∷ []) n ≡ Some row →
    slice_get (a.nodes.items ++ node ∷ []) n ≡ Some nd → IsNode known row nd × IsKindOf b known row nd.kind =
    λ n row nd at there. elim (last-or front x n row at) [
      | inl old ↦ elim (last-or a.nodes.items node n nd there) [
        | inl had ↦
            let was = seen.each n row nd old had in
            (was.0, kind-on known a b row nd.kind grows was.1)
        | inr new ↦
            let less = slice_get_within front n row old in
            absurd (omega (arith, less, new.0, seen.many))
      ]
      | inr last ↦ elim (last-or a.nodes.items node n nd there) [
        | inl had ↦
            let less = slice_get_within a.nodes.items n nd had in
            absurd (omega (arith, less, last.0, seen.many))
        | inr new ↦
            subst (λ r. IsNode known r nd × IsKindOf b known r nd.kind) last.1
            (subst (λ m. IsNode known x m × IsKindOf b known x m.kind) new.1 (one, kind))
      ]
    ] in
    subst (λ rs. AreSeen known rs b) (sym more) (record {
      many = long;
      each = λ n row nd at there. each n row nd at (subst (λ l. slice_get l n ≡ Some nd) added there);
    })

-- The graph

-- the number of a row is below how many there are
row-within : (n : ℕ) (rows : List Row) (p : List ℕ) (m : ℕ) → lookup (bytes_eq p) (numbered n rows) ≡ Some m → m < n + length rows
row-within n [] p m is = absurd (cc)
row-within n (r ∷ rows) p m is =
    elim (cases_Bool (bytes_eq p r.path)) [
      | inl t ↦
          let first : cond (bytes_eq p r.path) (Some n) (lookup (bytes_eq p) (numbered (n + 1) rows)) ≡ Some m = is in
          let here : n ≡ m = some-same n m (subst (λ b. cond b (Some n) (lookup (bytes_eq p) (numbered (n + 1) rows)) ≡ Some m) t first) in
          omega (arith, here)
      | inr f ↦
          let first : cond (bytes_eq p r.path) (Some n) (lookup (bytes_eq p) (numbered (n + 1) rows)) ≡ Some m = is in
          let below = row-within (n + 1) rows p m
          (subst (λ b. cond b (Some n) (lookup (bytes_eq p) (numbered (n + 1) rows)) ≡ Some m) f first) in
          omega (arith, below)
    ]

-- the first of some numbers, or one behind it
first-or : (y m : ℕ) (ns : List ℕ) → Contains (y ∷ ns) m → (y ≡ m) ⊎ Contains ns m
first-or y m ns (zero, below, at) = inl at
first-or y m ns (suc k, below, at) = inr (k, omega (arith, below), at)

found-at : (f : List ℕ → Option ℕ) (p : List ℕ) (ns : List ℕ) (m : ℕ) (o : Option ℕ) → f p ≡ o → Contains (cons_option o ns) m →
    (Some m ≡ f p) ⊎ Contains ns m
found-at f p ns m None is has = inr has
found-at f p ns m (Some y) is has =
    elim (first-or y m ns has) [
      | inl same ↦ inl (ap Some (sym same) ∙ sym is)
      | inr rest ↦ inr rest
    ]

found-of : (f : List ℕ → Option ℕ) (ps : List (List ℕ)) (m : ℕ) → Contains (filter_map f ps) m → (p : List ℕ) × (f p ≡ Some m)
found-of f [] m (k, below, at) = absurd (omega (arith, below))
found-of f (p ∷ ps) m has =
    elim (found-at f p (filter_map f ps) m (f p) refl has) [
      | inl here ↦ (p, sym here)
      | inr rest ↦ found-of f ps m rest
    ]

-- what a list has at a place below its length
there-is : {X : Type 0} (xs : List X) (n : ℕ) → n < length xs → (x : X) × (slice_get xs n ≡ Some x)
there-is [] n less = absurd (omega (arith, less))
there-is (x ∷ xs) zero less = (x, refl)
there-is (x ∷ xs) (suc n) less = there-is xs n (omega (arith, less))

no-needs : (m : ℕ) (o : Option Node) → o ≡ None → Contains (needs_of o) m → ⊥
no-needs m None is (k, below, at) = absurd (omega (arith, below))
no-needs m (Some node) is has = absurd (cc)

needed-within : (known : Known) (rows : List Row) (seen : Seen) → ((p : List ℕ) → known.row_of p ≡ row_of rows p) →
    AreSeen known rows seen → (n m : ℕ) (o : Option Node) → slice_get seen.nodes.items n ≡ o → Contains (needs_of o) m →
    m < length seen.nodes.items
needed-within known rows seen links are n m None at has = absurd (no-needs m None refl has)
needed-within known rows seen links are n m (Some node) at has =
    let less = slice_get_within seen.nodes.items n node at in
    let row = there-is rows n (omega (arith, less, are.many)) in
    let is = are.each n row.0 node row.1 at in
    let found = found-of known.row_of (changes (arc_value row.0.deps)) m (subst (λ ns. Contains ns m) is.0.needs has) in
    let below = row-within 0 rows found.0 m (sym (links found.0) ∙ found.1) in
    omega (arith, below, are.many)

-- each need of rows as nodes is the number of a row
pub is-graph : (known : Known) (rows : List Row) (seen : Seen) → ((p : List ℕ) → known.row_of p ≡ row_of rows p) →
    AreSeen known rows seen → IsGraph seen.nodes.items
is-graph known rows seen links are = λ n m needs.
    needed-within known rows seen links are n m (slice_get seen.nodes.items n) refl needs

-- rows that were seen are nodes
pub are-nodes : (known : Known) (rows : List Row) (seen : Seen) → AreSeen known rows seen → AreNodes known rows seen.nodes.items
are-nodes known rows seen are = record {
  many = are.many;
  each = λ n row node at there. (are.each n row node at there).0;
  kinds = λ m n one two first second same.
      let node = there-is seen.nodes.items m (omega (arith, slice_get_within rows m one first, are.many)) in
      let other = there-is seen.nodes.items n (omega (arith, slice_get_within rows n two second, are.many)) in
      let is = (are.each m one node.0 first node.1).1 in
      let also = (are.each n two other.0 second other.1).1 in
      let kind : node.0.kind ≡ other.0.kind =
      some-same node.0.kind other.0.kind (ap kind_of (sym node.1) ∙ same ∙ ap kind_of other.1) in
      record {
        rule =
            same-number seen.rules (rule_in (arc_value one.deps)) (rule_in (arc_value two.deps)) node.0.kind.rule
            other.0.kind.rule is.rule also.rule (ap (λ k. k.rule) kind);
        directory =
            same-number seen.directories (parent_of one.path) (parent_of two.path) node.0.kind.directory
            other.0.kind.directory is.directory also.directory (ap (λ k. k.directory) kind);
        outcome = sym is.outcome ∙ ap (λ k. k.outcome) kind ∙ also.outcome;
      };
}

-- what holds in any case holds where a call goes well
pub in-any-case : {A E : Type 0} (result : Result A E) (P : Type 0) → P → OnOk result P
in-any-case (Ok x) P is = is
in-any-case (Err e) P is = tt
