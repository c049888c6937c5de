-- Rings of paths, found by walks over numbers.
use Rattle.std.proofs.Common.{◌≡◌, ◌≢◌, ◌∙◌, ◌+◌, ◌<◌, inl, inr, ℕ, zero, suc, Bool, true, false, List, [], ◌∷◌, ◌++◌, Option, Some, None, refl, sym, ap, subst, arith, length, get_or, map, slice_get, take, eqb, append-nil, cond, not, true≢false, ◌&&◌, ◌-◌}
use Rattle.std.specs.Prelude.{All, Contains, filter_map, flat_map}
use Rattle.std.specs.Arc.{arc_value}
use Rattle.std.specs.List.{AllZip, count_by}
use Rattle.std.specs.Str.{bytes_eq}
use Rattle.std.proofs.lemmas.Bool.{cases_lt}
use Rattle.std.proofs.lemmas.List.{get_or_past, length-map, map-append, take_more}
use Rattle.std.proofs.lemmas.List.Elements.{All-cons, All-filter, All-nil, Contains-append_right, filter_agree, filter_map-append}
use Rattle.std.proofs.lemmas.List.Sums.{sum_by-cons}
use Rattle.std.proofs.lemmas.Option.{same_Some, slice_get-get_or, slice_get_within}
use Rattle.redo_names.specs.Paths.{AreDistinct, IsAmong, is_among}
use Rattle.redo_names.proofs.PathLemmas.{among-told, place-among, told-absent, told-among}
use Rattle.redo_record.specs.Progress.{changes}
use Rattle.redo_build.proofs.DepthLemmas.{cases_Option}
use Rattle.redo_report.specs.declared.report.Report.{Report}
use Rattle.redo_report.specs.declared.report.Row.{Row}
use Rattle.redo_rings.specs.declared.graph.Asks.{Asks}
use Rattle.redo_rings.specs.declared.ring.Ring.{Ring}
use Rattle.redo_rings.specs.declared.walks.Circle.{Circle}
use Rattle.redo_rings.specs.Rings.{AsksFor, AsksForNone, IsChain, IsRing, LeadsTo, asked, cyclic_paths, is_with, on_rings, ArePlaces, IsCounted, IsPlace}
use Rattle.redo_rings.specs.inside.Graph.{AreAsks, IsNumbering, asks_at}
use Rattle.redo_rings.specs.inside.Walks.{AreOnce, Goes, IsCircle, IsGraph, IsIn, IsKnown, IsSettled, circle_at, next_at, place_at, seen_at}
use Rattle.redo_rings.specs.inside.Found.{AreRingsOf, IsRingOf, is_at}
use Rattle.std.proofs.lemmas.Bool.Decides.{Decides-eqb, Decides-like, same_from_decides}
use Rattle.std.proofs.lemmas.Slice.Eq.{bytes_eq-Decides}
use Rattle.redo_rings.proofs.GraphLemmas.{one-number}
use Rattle.redo_rings.proofs.CountLemmas.{Entry, count-apart, count-filter, count-of, is_of, kept-among, kept-distinct, kept-there, passing, paths_in}
use Rattle.redo_rings.proofs.WalkLemmas.{in-either, in-left, in-right, once-both}

module _ (names : List (List ℕ)) where
  abbrev pub AreNamed : List ℕ → List (List ℕ) → Type 0
  AreNamed ns ps = map (slice_get names) ns ≡ map (λ (p : List ℕ). Some p) ps

  pub named-head : (n : ℕ) (ns : List ℕ) (p : List ℕ) (ps : List (List ℕ)) → AreNamed (n ∷ ns) (p ∷ ps) → slice_get names n ≡ Some p
  named-head n ns p ps are = cc

  pub named-tail : (n : ℕ) (ns : List ℕ) (p : List ℕ) (ps : List (List ℕ)) → AreNamed (n ∷ ns) (p ∷ ps) → AreNamed ns ps
  named-tail n ns p ps are = cc

  -- a number's path is there
  pub named-in : (ns : List ℕ) (ps : List (List ℕ)) (n : ℕ) → AreNamed ns ps → IsIn ns n → (p : List ℕ) × (slice_get names n ≡ Some p) × IsAmong ps p
  named-in [] ps n are none = absurd none
  named-in (m ∷ ns) [] n are is = absurd (let bad : map (slice_get names) (m ∷ ns) ≡ [] = are in cc)
  named-in (m ∷ ns) (p ∷ ps) n are (inl same) = (p, subst (λ k. slice_get names k ≡ Some p) same (named-head m ns p ps are), inl refl)
  named-in (m ∷ ns) (p ∷ ps) n are (inr rest) =
      let there = named-in ns ps n (named-tail m ns p ps are) rest in
      (there.0, there.1, inr there.2)

  -- a path's number is there
  pub named-back : (ns : List ℕ) (ps : List (List ℕ)) (p : List ℕ) → AreNamed ns ps → IsAmong ps p → (n : ℕ) × (slice_get names n ≡ Some p) × IsIn ns n
  named-back ns [] p are none = absurd none
  named-back [] (q ∷ ps) p are is = absurd (let bad : [] ≡ map (λ (p : List ℕ). Some p) (q ∷ ps) = are in cc)
  named-back (m ∷ ns) (q ∷ ps) p are (inl same) = (m, subst (λ r. slice_get names m ≡ Some r) same (named-head m ns q ps are), inl refl)
  named-back (m ∷ ns) (q ∷ ps) p are (inr rest) =
      let there = named-back ns ps p (named-tail m ns q ps are) rest in
      (there.0, there.1, inr there.2)

  pub named-once : AreDistinct names → (ns : List ℕ) (ps : List (List ℕ)) → AreNamed ns ps → AreOnce ns → AreDistinct ps
  named-once distinct ns [] are once = tt
  named-once distinct [] (q ∷ ps) are once = absurd (let bad : [] ≡ map (λ (p : List ℕ). Some p) (q ∷ ps) = are in cc)
  named-once distinct (m ∷ ns) (q ∷ ps) are once = (
    λ is.
        let there = named-back ns ps q (named-tail m ns q ps are) is in
        let same = one-number names there.0 m q distinct there.1 (named-head m ns q ps are) in
        once.0 (subst (IsIn ns) same there.2),
    named-once distinct ns ps (named-tail m ns q ps are) once.1,
  )

  pub none-named : (ps : List (List ℕ)) → AreNamed [] ps → ps ≡ []
  none-named [] are = refl
  none-named (p ∷ ps) are = absurd (let bad : [] ≡ map (λ (p : List ℕ). Some p) (p ∷ ps) = are in cc)

  pub named-at : (n : ℕ) → n < length names → (p : List ℕ) × (slice_get names n ≡ Some p)
  named-at n under = (get_or names n [], slice_get-get_or names n [] under)

module _ (report : Report) (names : List (List ℕ)) (table : List Asks) (next : List (Option ℕ))
    (same : (p : List ℕ) → is_among names p ≡ is_among (cyclic_paths report) p)
    (asks : AreAsks report.rows.items names table)
    (size : length next ≡ length names)
    (some : (k n : ℕ) → next_at next k ≡ Some n → IsIn (asks_at table k) n)
    (none : (k : ℕ) → k < length next → next_at next k ≡ None → asks_at table k ≡ []) where
  row-asked : (row : Row) (numbers : List ℕ) → IsNumbering names numbers row → AreNamed names numbers (asked report row)
  row-asked row numbers is = is ∙ ap (map (λ (p : List ℕ). Some p)) (filter_agree (is_among names) (is_among (cyclic_paths report)) same (changes (arc_value row.deps)))

  pub asks-for : (i j : ℕ) (p q : List ℕ) → next_at next i ≡ Some j → slice_get names i ≡ Some p → slice_get names j ≡ Some q → AsksFor report p q
  asks-for i j p q is here there =
      let row = asks i p here in
      let found = named-in names (asks_at table i) (asked report row.0) j (row-asked row.0 (asks_at table i) row.3) (some i j is) in
      let one : found.0 ≡ q = cc in
      (row.0, row.1, row.2, subst (IsAmong (asked report row.0)) one found.2)

  pub is-graph : IsGraph next
  is-graph i j is = elim (cases_lt i (length next)) [
    | inr past ↦ absurd (let bad : None ≡ Some j = sym (get_or_past next i None past) ∙ is in cc)
    | inl under ↦
        let here = named-at names i (omega (arith, under, size)) in
        let row = asks i here.0 here.1 in
        let found = named-in names (asks_at table i) (asked report row.0) j (row-asked row.0 (asks_at table i) row.3) (some i j is) in
        let within = slice_get_within names j found.0 found.1 in
        omega (arith, within, size)
  ]

  pub asks-none : (i : ℕ) (p : List ℕ) → next_at next i ≡ None → slice_get names i ≡ Some p → AsksForNone report p
  asks-none i p is here =
      let row = asks i p here in
      let under : i < length next = let h = slice_get_within names i p here in omega (arith, h, size) in (
        row.0,
        row.1,
        row.2,
        none-named names (asked report row.0)
            (subst (λ ns. AreNamed names ns (asked report row.0)) (none i under is) (row-asked row.0 (asks_at table i) row.3)),
      )

  pub chain : (at : Option ℕ) (ns : List ℕ) (ps : List (List ℕ)) (e : ℕ) (q : List ℕ) → AreNamed names ns ps → Goes next at ns (Some e) → slice_get names e ≡ Some q → IsChain report ps q
  chain at ns [] e q are goes there = tt
  chain at [] (p ∷ ps) e q are goes there = absurd (let bad : [] ≡ map (λ (p : List ℕ). Some p) (p ∷ ps) = are in cc)
  chain at (n ∷ []) (p ∷ []) e q are goes there = asks-for n e p q goes.1 (named-head names n [] p [] are) there
  chain at (n ∷ []) (p ∷ r ∷ ps) e q are goes there =
      let bad : [] ≡ map (λ (p : List ℕ). Some p) (r ∷ ps) = named-tail names n [] p (r ∷ ps) are in absurd cc
  chain at (n ∷ m ∷ ns) (p ∷ []) e q are goes there =
      let bad : map (slice_get names) (m ∷ ns) ≡ [] = named-tail names n (m ∷ ns) p [] are in absurd cc
  chain at (n ∷ m ∷ ns) (p ∷ r ∷ ps) e q are goes there =
      let rest = named-tail names n (m ∷ ns) p (r ∷ ps) are in (
        asks-for n m p r goes.1.0 (named-head names n (m ∷ ns) p (r ∷ ps) are) (named-head names m ns r ps rest),
        chain (next_at next n) (m ∷ ns) (r ∷ ps) e q rest goes.1 there,
      )

  -- the numbers of a walk have paths
  named-all : (at end : Option ℕ) (ns : List ℕ) → ((n : ℕ) → at ≡ Some n → n < length names) → Goes next at ns end → (ps : List (List ℕ)) × AreNamed names ns ps
  named-all at end [] within goes = ([], refl)
  named-all at end (n ∷ ns) within goes =
      let rest = named-all (next_at next n) end ns (λ m is. let h = is-graph n m is in omega (arith, h, size)) goes.1 in
      let here = named-at names n (within n goes.0) in
      (here.0 ∷ rest.0, ap (λ o. o ∷ map (slice_get names) ns) here.1 ∙ ap (λ l. Some here.0 ∷ l) rest.1)

  pub leads-to : (k e : ℕ) (p q : List ℕ) (ns : List ℕ) → slice_get names k ≡ Some p → slice_get names e ≡ Some q → Goes next (Some k) ns (Some e) → LeadsTo report p q
  leads-to k e p q [] here there goes = inl (let one : k ≡ e = cc in let both : slice_get names k ≡ Some q = subst (λ n. slice_get names n ≡ Some q) (sym one) there in cc)
  leads-to k e p q (n ∷ ns) here there goes =
      let one : k ≡ n = cc in
      let rest = named-all (next_at next n) (Some e) ns (λ m is. let h = is-graph n m is in omega (arith, h, size)) goes.1 in
      let head : slice_get names n ≡ Some p = subst (λ m. slice_get names m ≡ Some p) one here in
      let are : AreNamed names (n ∷ ns) (p ∷ rest.0) = ap (λ o. o ∷ map (slice_get names) ns) head ∙ ap (λ l. Some p ∷ l) rest.1 in
      inr (rest.0, chain (Some k) (n ∷ ns) (p ∷ rest.0) e q are goes there)

  -- a walk that ends comes to a last number
  last-of : (k : ℕ) (at : Option ℕ) (ns : List ℕ) → at ≡ Some k → k < length names → Goes next at ns None →
      (last : ℕ) × (last < length names) × (next_at next last ≡ None) × ((ms : List ℕ) × Goes next (Some k) ms (Some last))
  last-of k at [] is within goes = absurd (let bad : None ≡ Some k = sym goes ∙ is in cc)
  last-of k at (n ∷ ns) is within goes =
      let one : n ≡ k = let both : Some n ≡ Some k = sym goes.0 ∙ is in cc in
      elim (cases_Option (next_at next k)) [
        | inl ended ↦ (k, within, ended, ([], refl))
        | inr more ↦
            let rest = last-of more.0 (next_at next n) ns (ap (next_at next) one ∙ more.1)
            (let h = is-graph k more.0 more.1 in omega (arith, h, size)) goes.1 in
            (rest.0, rest.1, rest.2, (k ∷ rest.3.0, (refl, subst (λ a. Goes next a rest.3.0 (Some rest.0)) (sym more.1) rest.3.1)))
      ]

  pub leads-out : (k : ℕ) (p : List ℕ) (ns : List ℕ) → slice_get names k ≡ Some p → Goes next (Some k) ns None →
      (q : List ℕ) × LeadsTo report p q × AsksForNone report q
  leads-out k p ns here goes =
      let last = last-of k (Some k) ns refl (slice_get_within names k p here) goes in
      let there = named-at names last.0 last.1 in
      (there.0, leads-to k last.0 p there.0 last.3.0 here there.1 last.3.1, asks-none last.0 there.0 last.2 there.1)

-- All circles, in order

abbrev pub all_circles : List (Option Circle) → List Circle
all_circles circles = filter_map (λ (o : Option Circle). o) circles

abbrev pub numbers_of : List Circle → List ℕ
numbers_of cs = flat_map (λ (c : Circle). c.members.items) cs

module _ (R : Circle → Ring → Type 0) where
  zip-push : (cs : List Circle) (rs : List Ring) (c : Circle) (r : Ring) → AllZip R cs rs → R c r → AllZip R (cs ++ c ∷ []) (rs ++ r ∷ [])
  zip-push [] [] c r zipped is = (is, tt)
  zip-push [] (q ∷ rs) c r zipped is = absurd zipped
  zip-push (d ∷ cs) [] c r zipped is = absurd zipped
  zip-push (d ∷ cs) (q ∷ rs) c r zipped is = (zipped.0, zip-push cs rs c r zipped.1 is)

  pub ring-more : (table : List (Option Circle)) (i : ℕ) (rs : List Ring) (c : Circle) (r : Ring) → i < length table → get_or table i None ≡ Some c →
      AllZip R (all_circles (take i table)) rs → R c r → AllZip R (all_circles (take (i + 1) table)) (rs ++ r ∷ [])
  ring-more table i rs c r under at zipped is =
      let more = ap all_circles (take_more table i None under ∙ ap (λ o. take i table ++ o ∷ []) at)
      ∙ filter_map-append (λ (o : Option Circle). o) (take i table) (Some c ∷ []) in
      subst (λ cs. AllZip R cs (rs ++ r ∷ [])) (sym more) (zip-push (all_circles (take i table)) rs c r zipped is)

  pub ring-none : (table : List (Option Circle)) (i : ℕ) (rs : List Ring) → i < length table → get_or table i None ≡ None →
      AllZip R (all_circles (take i table)) rs → AllZip R (all_circles (take (i + 1) table)) rs
  ring-none table i rs under at zipped =
      let more = ap all_circles (take_more table i None under ∙ ap (λ o. take i table ++ o ∷ []) at)
      ∙ filter_map-append (λ (o : Option Circle). o) (take i table) (None ∷ []) ∙ append-nil (all_circles (take i table)) in
      subst (λ cs. AllZip R cs rs) (sym more) zipped

  -- what holds of each ring of a circle
  pub zip-all : (P : Circle → Type 0) (Q : Ring → Type 0) → ((c : Circle) (r : Ring) → P c → R c r → Q r) →
      (table : List (Option Circle)) (rs : List Ring) → ((n : ℕ) (c : Circle) → circle_at table n ≡ Some c → P c) →
      AllZip R (all_circles table) rs → All Q rs
  zip-all P Q leads [] [] are zipped = All-nil Q
  zip-all P Q leads [] (r ∷ rs) are zipped = absurd zipped
  zip-all P Q leads (None ∷ table) rs are zipped = zip-all P Q leads table rs (λ n c at. are (suc n) c at) zipped
  zip-all P Q leads (Some c ∷ table) [] are zipped = absurd zipped
  zip-all P Q leads (Some c ∷ table) (r ∷ rs) are zipped =
      All-cons Q r rs (leads c r (are 0 c refl) zipped.0) (zip-all P Q leads table rs (λ n d at. are (suc n) d at) zipped.1)

  -- each circle has its ring
  pub zip-at : (table : List (Option Circle)) (rs : List Ring) (n : ℕ) (c : Circle) → circle_at table n ≡ Some c → AllZip R (all_circles table) rs →
      (r : Ring) × Contains rs r × R c r
  zip-at [] rs n c at zipped = absurd (let bad : None ≡ Some c = at in cc)
  zip-at (None ∷ table) rs zero c at zipped = absurd (let bad : None ≡ Some c = at in cc)
  zip-at (None ∷ table) rs (suc n) c at zipped = zip-at table rs n c at zipped
  zip-at (Some d ∷ table) [] n c at zipped = absurd zipped
  zip-at (Some d ∷ table) (r ∷ rs) zero c at zipped = (r, (0, omega arith, refl), (let one : d ≡ c = cc in subst (λ x. R x r) one zipped.0))
  zip-at (Some d ∷ table) (r ∷ rs) (suc n) c at zipped =
      let rest = zip-at table rs n c at zipped.1 in
      (rest.0, Contains-append_right (r ∷ []) rs rest.0 rest.1, rest.2)

-- a number on a circle is among those of all, and back
pub in-numbers : (table : List (Option Circle)) (m n : ℕ) (c : Circle) → circle_at table m ≡ Some c → IsIn c.members.items n → IsIn (numbers_of (all_circles table)) n
in-numbers [] m n c at is = absurd (let bad : None ≡ Some c = at in cc)
in-numbers (None ∷ table) zero n c at is = absurd (let bad : None ≡ Some c = at in cc)
in-numbers (None ∷ table) (suc m) n c at is = in-numbers table m n c at is
in-numbers (Some d ∷ table) zero n c at is =
    let one : d ≡ c = cc in in-left d.members.items (numbers_of (all_circles table)) n (subst (λ x. IsIn x.members.items n) (sym one) is)
in-numbers (Some d ∷ table) (suc m) n c at is = in-right d.members.items (numbers_of (all_circles table)) n (in-numbers table m n c at is)

pub on-circle : (table : List (Option Circle)) (n : ℕ) → IsIn (numbers_of (all_circles table)) n →
    (m : ℕ) × (c : Circle) × (circle_at table m ≡ Some c) × IsIn c.members.items n
on-circle [] n none = absurd none
on-circle (None ∷ table) n is = let rest = on-circle table n is in (suc rest.0, rest.1, rest.2, rest.3)
on-circle (Some c ∷ table) n is = elim (in-either c.members.items (numbers_of (all_circles table)) n is) [
  | inl here ↦ (0, c, refl, here)
  | inr later ↦ let rest = on-circle table n later in (suc rest.0, rest.1, rest.2, rest.3)
]

-- each circle has a number once, and no number is on two circles
abbrev AreApart : List (Option Circle) → Type 0
AreApart table = (k : ℕ) (c : Circle) → circle_at table k ≡ Some c → AreOnce c.members.items
    × ((l : ℕ) (d : Circle) (n : ℕ) → circle_at table l ≡ Some d → IsIn c.members.items n → IsIn d.members.items n → k ≡ l)

apart-later : (o : Option Circle) (table : List (Option Circle)) → AreApart (o ∷ table) → AreApart table
apart-later o table apart k c at =
    let here = apart (suc k) c at in
    (here.0, λ l d n there is also. let same : suc k ≡ suc l = here.1 (suc l) d n there is also in cc)

pub circles-once : (table : List (Option Circle)) → AreApart table → AreOnce (numbers_of (all_circles table))
circles-once [] apart = tt
circles-once (None ∷ table) apart = circles-once table (apart-later None table apart)
circles-once (Some c ∷ table) apart =
    let here = apart 0 c refl in
    once-both c.members.items (numbers_of (all_circles table)) here.0 (circles-once table (apart-later (Some c) table apart))
    (λ n is later.
    let on = on-circle table n later in
    let same : 0 ≡ suc on.0 = here.1 (suc on.0) on.1 n on.2 is on.3 in
    omega (arith, same))

-- the numbers of all circles have the paths on all rings
pub rings-named : (names : List (List ℕ)) (R : Circle → Ring → Type 0) → ((c : Circle) (r : Ring) → R c r → AreNamed names c.members.items r.members.items) →
    (cs : List Circle) (rs : List Ring) → AllZip R cs rs → AreNamed names (numbers_of cs) (on_rings rs)
rings-named names R named [] [] zipped = refl
rings-named names R named [] (r ∷ rs) zipped = absurd zipped
rings-named names R named (c ∷ cs) [] zipped = absurd zipped
rings-named names R named (c ∷ cs) (r ∷ rs) zipped =
    map-append (slice_get names) c.members.items (numbers_of cs)
    ∙ ap (λ l. l ++ map (slice_get names) (numbers_of cs)) (named c r zipped.0)
    ∙ ap (λ l. map (λ (p : List ℕ). Some p) r.members.items ++ l) (rings-named names R named cs rs zipped.1)
    ∙ sym (map-append (λ (p : List ℕ). Some p) r.members.items (on_rings rs))

-- Places, with paths

abbrev pub told : List (List ℕ) → Option ℕ → Option (List ℕ)
told names None = None
told names (Some n) = slice_get names n

abbrev pub told_places : List (List ℕ) → List (List ℕ) → List (Option ℕ) → List (List ℕ × Option (List ℕ))
told_places names [] os = []
told_places names (p ∷ ps) [] = []
told_places names (p ∷ ps) (o ∷ os) = (p, told names o) ∷ told_places names ps os

module _ (names : List (List ℕ)) where
  pub told-paths : (ps : List (List ℕ)) (os : List (Option ℕ)) → length os ≡ length ps → map (λ (e : List ℕ × Option (List ℕ)). e.0) (told_places names ps os) ≡ ps
  told-paths [] os many = refl
  told-paths (p ∷ ps) [] many = absurd (omega (arith, many))
  told-paths (p ∷ ps) (o ∷ os) many = ap (λ l. p ∷ l) (told-paths ps os (omega (arith, many)))

  pub told-all : (P : List ℕ × Option (List ℕ) → Type 0) (ps : List (List ℕ)) (os : List (Option ℕ)) →
      ((k : ℕ) (p : List ℕ) → slice_get ps k ≡ Some p → P (p, told names (place_at os k))) → All P (told_places names ps os)
  told-all P [] os are = All-nil P
  told-all P (p ∷ ps) [] are = All-nil P
  told-all P (p ∷ ps) (o ∷ os) are = All-cons P (p, told names o) (told_places names ps os) (are 0 p refl) (told-all P ps os (λ k q at. are (suc k) q at))

  same-test : AreDistinct names → (m : ℕ) (first : List ℕ) → slice_get names m ≡ Some first → (o : Option ℕ) → ((n : ℕ) → o ≡ Some n → n < length names) →
      is_with first (told names o) ≡ is_at m o
  same-test distinct m first at None within = refl
  same-test distinct m first at (Some n) within =
      let here = named-at names n (within n refl) in
      ap (is_with first) here.1
      ∙ same_from_decides (bytes_eq here.0 first) (eqb n m) (bytes_eq-Decides here.0 first)
      (Decides-like (eqb n m) (λ same. same_Some here.0 first (sym here.1 ∙ ap (slice_get names) same ∙ at))
      (λ same. one-number names n m first distinct (here.1 ∙ ap (λ (p : List ℕ). Some p) same) at) (Decides-eqb n m))

  pub told-count : AreDistinct names → (m : ℕ) (first : List ℕ) → slice_get names m ≡ Some first → (ps : List (List ℕ)) (os : List (Option ℕ)) → length os ≡ length ps →
      ((k n : ℕ) → place_at os k ≡ Some n → n < length names) → count_by (λ (e : List ℕ × Option (List ℕ)). is_with first e.1) (told_places names ps os) ≡ count_by (is_at m) os
  told-count distinct m first at [] [] many within = refl
  told-count distinct m first at [] (o ∷ os) many within = absurd (omega (arith, many))
  told-count distinct m first at (p ∷ ps) [] many within = absurd (omega (arith, many))
  told-count distinct m first at (p ∷ ps) (o ∷ os) many within =
      let rest = told-count distinct m first at ps os (omega (arith, many)) (λ k n is. within (suc k) n is) in
      let here = same-test distinct m first at o (λ n is. within 0 n is) in
      sum_by-cons (λ (e : List ℕ × Option (List ℕ)). cond (is_with first e.1) 1 0) (p, told names o) (told_places names ps os)
      ∙ ap (λ n. cond (is_with first (told names o)) 1 0 + n) rest
      ∙ ap (λ b. cond b 1 0 + count_by (is_at m) os) here
      ∙ sym (sum_by-cons (λ (q : Option ℕ). cond (is_at m q) 1 0) o os)

-- All that is found

pub first-of : (next : List (Option ℕ)) (seen : List Bool) (places : List (Option ℕ)) (m : ℕ) (ns : List ℕ) → IsCircle next seen places m ns → get_or ns 0 0 ≡ m
first-of next seen places m ns circle = ap (λ l. get_or l 0 0) circle.begins.1

some-circle : (o : Option Circle) → o ≢ None → (c : Circle) × (o ≡ Some c)
some-circle None some = absurd (some refl)
some-circle (Some c) some = (c, refl)

module _ (next : List (Option ℕ)) (seen : List Bool) (places : List (Option ℕ)) (circles : List (Option Circle))
    (known : IsKnown next seen places circles)
    (all : (n : ℕ) → n < length next → seen_at seen n ≡ true) where
  circle-there : (n m : ℕ) → place_at places n ≡ Some m → (c : Circle) × (circle_at circles m ≡ Some c)
  circle-there n m is = elim (cases_lt n (length next)) [
    | inr past ↦
        let none = get_or_past places n None (let h = known.places_size in omega (arith, h, past)) in
        absurd (let bad : None ≡ Some m = sym none ∙ is in cc)
    | inl under ↦
        let settled = subst (λ o. IsSettled next circles (Some n) o) is (known.settled n (all n under)) in
        some-circle (circle_at circles m) settled.1
  ]

  pub places-in : (n m : ℕ) → place_at places n ≡ Some m → m < length places
  places-in n m is =
      let there = circle-there n m is in
      elim (cases_lt m (length circles)) [
        | inr past ↦ absurd (let bad : None ≡ Some there.0 = sym (get_or_past circles m None past) ∙ there.1 in cc)
        | inl under ↦ omega (arith, under, known.circles_size, known.places_size)
      ]

  module _ (report : Report) (names : List (List ℕ)) (table : List Asks)
      (same : (p : List ℕ) → is_among names p ≡ is_among (cyclic_paths report) p)
      (distinct : AreDistinct names)
      (asks : AreAsks report.rows.items names table)
      (size : length next ≡ length names)
      (some : (k n : ℕ) → next_at next k ≡ Some n → IsIn (asks_at table k) n)
      (none : (k : ℕ) → k < length next → next_at next k ≡ None → asks_at table k ≡ [])
      (rings : List Ring) (are : AreRingsOf names places circles rings) where
    abbrev R : Circle → Ring → Type 0
    R c r = IsRingOf names (count_by (is_at (get_or c.members.items 0 0)) places) c r

    ring-begins : (ns : List ℕ) (ps : List (List ℕ)) (m : ℕ) (first : List ℕ) → AreNamed names ns ps → slice_get names m ≡ Some first →
        ((rest : List ℕ) × (ns ≡ m ∷ rest)) → (others : List (List ℕ)) × (ps ≡ first ∷ others)
    ring-begins ns [] m first named at begins =
        absurd (let bad : map (slice_get names) (m ∷ begins.0) ≡ [] = ap (map (slice_get names)) (sym begins.1) ∙ named in cc)
    ring-begins ns (p ∷ ps) m first named at begins =
        let head = named-head names m begins.0 p ps (ap (map (slice_get names)) (sym begins.1) ∙ named) in
        (ps, let one : p ≡ first = cc in ap (λ q. q ∷ ps) one)

    is-ring : (m : ℕ) (first : List ℕ) (c : Circle) (r : Ring) → slice_get names m ≡ Some first → IsCircle next seen places m c.members.items → R c r →
        IsRing report first r.members.items
    is-ring m first c r at circle is =
        let begins = ring-begins c.members.items r.members.items m first is.0 at circle.begins in (
          begins.0,
          begins.1,
          chain report names table next same asks size some none (Some m) c.members.items r.members.items m first is.0 circle.goes at,
          named-once names distinct c.members.items r.members.items is.0 circle.once,
        )

    abbrev FromCircle : Circle → Type 0
    FromCircle c = (m : ℕ) × (circle_at circles m ≡ Some c)

    first-named : (m : ℕ) (ns : List ℕ) → IsCircle next seen places m ns → (first : List ℕ) × (slice_get names m ≡ Some first)
    first-named m ns circle =
        let begins = circle.begins in
        let there : IsIn ns m = subst (λ l. IsIn l m) (sym begins.1) (inl refl) in
        named-at names m (let h = circle.within m there in omega (arith, h, size))

    pub all-rings : All (λ (r : Ring). (first : List ℕ) × IsRing report first r.members.items) rings
    all-rings =
        zip-all R FromCircle (λ r. (first : List ℕ) × IsRing report first r.members.items)
        (λ c r from is.
        let circle = known.circles from.0 c from.1 in
        let name = first-named from.0 c.members.items circle in
        (name.0, is-ring from.0 name.0 c r name.1 circle is))
        circles rings (λ n c at. (n, at)) are

    all-named : AreNamed names (numbers_of (all_circles circles)) (on_rings rings)
    all-named = rings-named names R (λ c r is. is.0) (all_circles circles) rings are

    pub all-once : AreDistinct (on_rings rings)
    all-once =
        named-once names distinct (numbers_of (all_circles circles)) (on_rings rings) all-named
        (circles-once circles (λ k c at.
        let circle = known.circles k c at in (
          circle.once,
          λ l d n there is also.
              let both : Some k ≡ Some l = sym (circle.placed n is) ∙ (known.circles l d there).placed n also in cc,
        )))

    abbrev found : List Entry
    found = told_places names names places

    many : length places ≡ length names
    many = known.places_size ∙ size

    found-paths : paths_in found ≡ names
    found-paths = told-paths names names places many

    found-once : AreDistinct (paths_in found)
    found-once = subst AreDistinct (sym found-paths) distinct

    found-among : (p : List ℕ) → IsAmong names p → IsAmong (paths_in found) p
    found-among p is = subst (λ l. IsAmong l p) (sym found-paths) is

    abbrev is_outside : List ℕ → Bool
    is_outside p = not (is_among (on_rings rings) p)

    -- what is found of those that are on no ring
    abbrev pub others : List Entry
    others = passing is_outside found

    place-is : (k : ℕ) (p : List ℕ) (o : Option ℕ) → slice_get names k ≡ Some p → place_at places k ≡ o → IsSettled next circles (Some k) o → IsPlace report rings p (told names o)
    place-is k p None at is settled = leads-out report names table next same asks size some none k p settled.0 at settled.1
    place-is k p (Some m) at is settled =
        let there = some-circle (circle_at circles m) settled.1 in
        let circle = known.circles m there.0 there.1 in
        let name = first-named m there.0.members.items circle in
        let ring = zip-at R circles rings m there.0 there.1 are in
        subst (λ o. IsPlace report rings p o) (sym name.1) (
          leads-to report names table next same asks size some none k m p name.0 settled.0.0 at name.1 settled.0.1,
          (ring.0, ring.1, is-ring m name.0 there.0 ring.0 name.1 circle ring.2),
        )

    pub are-places : ArePlaces report rings others
    are-places = record {
      once = kept-distinct is_outside found found-once;
      each = λ p. (
        (λ is.
            let kept = kept-among is_outside found p is in
            let named : is_among names p ≡ true = told-among names p (subst (λ l. IsAmong l p) found-paths kept.1) in (
              among-told (cyclic_paths report) p (sym (same p) ∙ named),
              λ on. true≢false (sym kept.0 ∙ ap not (told-among (on_rings rings) p on)),
            )),
        (λ is.
            let named : is_among names p ≡ true = same p ∙ told-among (cyclic_paths report) p is.0 in
            kept-there is_outside found p (ap not (told-absent (on_rings rings) p is.1)) (found-among p (among-told names p named))),
      );
      right = All-filter (λ (e : Entry). is_outside e.0) (λ e. IsPlace report rings e.0 e.1) found
          (told-all names (λ e. IsPlace report rings e.0 e.1) names places (λ k p at.
          let under = slice_get_within names k p at in
          place-is k p (place_at places k) at refl (known.settled k (all k (omega (arith, under, size))))));
    }

    on-some : (k : ℕ) (p : List ℕ) → slice_get names k ≡ Some p → IsAmong (on_rings rings) p →
        (m : ℕ) × (c : Circle) × (circle_at circles m ≡ Some c) × IsIn c.members.items k
    on-some k p here on =
        let back = named-back names (numbers_of (all_circles circles)) (on_rings rings) p all-named on in
        on-circle circles k (subst (IsIn (numbers_of (all_circles circles))) (one-number names back.0 k p distinct back.1 here) back.2)

    -- One ring

    module _ (m : ℕ) (c : Circle) (r : Ring) (first : List ℕ) (at : circle_at circles m ≡ Some c)
        (named : AreNamed names c.members.items r.members.items) (name : slice_get names m ≡ Some first) where
      abbrev place_of : ℕ → Option (List ℕ)
      place_of k = told names (place_at places k)

      member-number : (k : ℕ) (p : List ℕ) → slice_get names k ≡ Some p → IsAmong r.members.items p → IsIn c.members.items k
      member-number k p here is =
          let back = named-back names c.members.items r.members.items p named is in
          subst (IsIn c.members.items) (one-number names back.0 k p distinct back.1 here) back.2

      -- a member is placed with its ring
      member-with : (k : ℕ) (p : List ℕ) → slice_get names k ≡ Some p → IsAmong r.members.items p → is_with first (place_of k) ≡ true
      member-with k p here is =
          ap (λ o. is_with first (told names o)) ((known.circles m c at).placed k (member-number k p here is))
          ∙ ap (is_with first) name ∙ (bytes_eq-Decides first first).1 refl

      member-on : (k : ℕ) (p : List ℕ) → slice_get names k ≡ Some p → IsAmong r.members.items p → IsAmong (on_rings rings) p
      member-on k p here is =
          let there = named-in names (numbers_of (all_circles circles)) (on_rings rings) k all-named
          (in-numbers circles m k c at (member-number k p here is)) in
          subst (IsAmong (on_rings rings)) (same_Some there.0 p (sym there.1 ∙ here)) there.2

      same-circle : (n : ℕ) (d : Circle) (k : ℕ) → circle_at circles n ≡ Some d → IsIn d.members.items k → is_with first (place_of k) ≡ true → d ≡ c
      same-circle n d k there is is_here =
          let circle = known.circles n d there in
          let begins = first-named n d.members.items circle in
          let placed : bytes_eq begins.0 first ≡ true =
          sym (ap (λ o. is_with first (told names o)) (circle.placed k is) ∙ ap (is_with first) begins.1) ∙ is_here in
          let same_first = ap (λ (q : List ℕ). Some q) ((bytes_eq-Decides begins.0 first).0 placed) in
          let same_place : n ≡ m = one-number names n m first distinct (begins.1 ∙ same_first) name in
          same_Some d c (sym there ∙ subst (λ x. circle_at circles x ≡ Some c) (sym same_place) at)

      number-member : (k : ℕ) (p : List ℕ) → slice_get names k ≡ Some p → IsIn c.members.items k → IsAmong r.members.items p
      number-member k p here is =
          let member = named-in names c.members.items r.members.items k named is in
          subst (IsAmong r.members.items) (same_Some member.0 p (sym member.1 ∙ here)) member.2

      -- who is on a ring and is placed with this one is its member
      with-member : (k : ℕ) (p : List ℕ) → slice_get names k ≡ Some p → is_with first (place_of k) ≡ true → IsAmong (on_rings rings) p → IsAmong r.members.items p
      with-member k p here is_here on =
          let there = on-some k p here on in
          let same_circle = same-circle there.0 there.1 k there.2 there.3 is_here in
          number-member k p here (subst (λ x. IsIn x.members.items k) same_circle there.3)

      apart : (k : ℕ) (p : List ℕ) → slice_get names k ≡ Some p →
          cond (is_with first (place_of k)) 1 0 ≡ cond (is_among r.members.items p) 1 0 + cond (is_with first (place_of k) && is_outside p) 1 0
      apart k p here =
          three (is_with first (place_of k)) (is_among r.members.items p) (is_among (on_rings rings) p)
          (λ told. member-with k p here (among-told r.members.items p told))
          (λ told. told-among (on_rings rings) p (member-on k p here (among-told r.members.items p told)))
          (λ is_here on. told-among r.members.items p (with-member k p here is_here (among-told (on_rings rings) p on)))
        where
          three : (a b on : Bool) → (b ≡ true → a ≡ true) → (b ≡ true → on ≡ true) → (a ≡ true → on ≡ true → b ≡ true) →
              cond a 1 0 ≡ cond b 1 0 + cond (a && not on) 1 0
          three true true true x y z = refl
          three true true false x y z = absurd (let bad : false ≡ true = y refl in cc)
          three true false true x y z = absurd (let bad : false ≡ true = z refl refl in cc)
          three true false false x y z = refl
          three false true on x y z = absurd (let bad : false ≡ true = x refl in cc)
          three false false on x y z = refl

      abbrev with_first : Entry → Bool
      with_first e = is_with first e.1

      -- the members, and the others that are placed with the ring
      pub all-with : count_by with_first found ≡ length r.members.items + count_by with_first others
      all-with =
          let members = count-of r.members.items found found-once
          (named-once names distinct c.members.items r.members.items named (known.circles m c at).once)
          (λ p is. let back = named-back names c.members.items r.members.items p named is in found-among p (place-among names back.0 p back.1)) in
          let both = count-apart with_first (is_of r.members.items) (λ e. with_first e && is_outside e.0) found
          (told-all names
          (λ (e : Entry). cond (with_first e) 1 0 ≡ cond (is_of r.members.items e) 1 0 + cond (with_first e && is_outside e.0) 1 0)
          names places apart) in
          let outside = count-filter with_first (λ (e : Entry). is_outside e.0) found in
          omega (arith, members, both, outside)

    pub all-counted : All (IsCounted report others) rings
    all-counted =
        zip-all R FromCircle (IsCounted report others)
        (λ c r from is.
        let ns = c.members.items in
        let circle = known.circles from.0 c from.1 in
        let name = first-named from.0 ns circle in
        let long : length ns ≡ length r.members.items =
        sym (length-map ns (slice_get names)) ∙ ap length is.0 ∙ length-map r.members.items (λ (p : List ℕ). Some p) in
        let counted = told-count names distinct from.0 name.0 name.1 names places many
        (λ k n at. let h = places-in k n at in omega (arith, h, many)) in
        let waiting = is.1 ∙ ap (λ m. count_by (is_at m) places - length ns) (first-of next seen places from.0 ns circle)
        ∙ ap (λ n. n - length ns) (sym counted) in
        let both = all-with from.0 c r name.0 from.1 is.0 name.1 in
        (name.0, is-ring from.0 name.0 c r name.1 circle is, omega (arith, waiting, both, long)))
        circles rings (λ n c at. (n, at)) are
