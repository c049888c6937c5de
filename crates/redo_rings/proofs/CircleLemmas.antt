-- A circle, turned to begin with its least number.
use Rattle.std.proofs.Common.{◌≡◌, ◌∙◌, ◌+◌, ◌<◌, ◌≤◌, inl, inr, ℕ, List, [], ◌∷◌, ◌++◌, Option, Some, None, sym, subst, arith, length, take, drop, get_or, ap, slice_get, zero, suc}
use Rattle.std.proofs.lemmas.List.{drop_more, take-append-drop}
use Rattle.redo_rings.specs.inside.Walks.{AreOnce, Goes, IsIn, IsTurned, next_at}
use Rattle.redo_rings.proofs.WalkLemmas.{goes-join, goes-split, in-either, in-left, in-right, index-in, once-both, once-parts}

module _ (ns ms : List ℕ) (is : IsTurned ns ms) where
  abbrev least : ℕ
  least = get_or ns is.0 0

  turned-list : ms ≡ least ∷ (drop (is.0 + 1) ns ++ take is.0 ns)
  turned-list = is.2 ∙ ap (λ l. l ++ take is.0 ns) (drop_more ns is.0 0 is.1)

  turned-least : get_or ms 0 0 ≡ least
  turned-least = ap (λ l. get_or l 0 0) turned-list

  pub turned-begins : (rest : List ℕ) × (ms ≡ get_or ms 0 0 ∷ rest)
  turned-begins = (drop (is.0 + 1) ns ++ take is.0 ns, turned-list ∙ ap (λ n. n ∷ (drop (is.0 + 1) ns ++ take is.0 ns)) (sym turned-least))

  pub turned-first : IsIn ns (get_or ms 0 0)
  turned-first = subst (λ n. IsIn ns n) (sym turned-least) (index-in ns is.0 is.1)

  pub turned-long : 0 < length ms
  turned-long = let e = ap length turned-list in omega (arith, e)

  parts : ns ≡ take is.0 ns ++ drop is.0 ns
  parts = sym (take-append-drop is.0 ns)

  pub turned-in : (n : ℕ) → IsIn ms n → IsIn ns n
  turned-in n there =
      subst (λ l. IsIn l n) (sym parts) (elim (in-either (drop is.0 ns) (take is.0 ns) n (subst (λ l. IsIn l n) is.2 there)) [
        | inl l ↦ in-right (take is.0 ns) (drop is.0 ns) n l
        | inr r ↦ in-left (take is.0 ns) (drop is.0 ns) n r
      ])

  pub turned-at-least : (n : ℕ) → IsIn ms n → get_or ms 0 0 ≤ n
  turned-at-least n there = let le = is.3 n (turned-in n there) in subst (λ m. m ≤ n) (sym turned-least) le

  pub turned-once : AreOnce ns → AreOnce ms
  turned-once once =
      let both = once-parts (take is.0 ns) (drop is.0 ns) (subst AreOnce parts once) in
      subst AreOnce (sym is.2) (once-both (drop is.0 ns) (take is.0 ns) both.1 both.0 (λ n l r. both.2 n r l))

  module _ (next : List (Option ℕ)) (at : Option ℕ) (goes : Goes next at ns at) where
    split : (middle : Option ℕ) × Goes next at (take is.0 ns) middle × Goes next middle (drop is.0 ns) at
    split = goes-split next at at (take is.0 ns) (drop is.0 ns) (subst (λ l. Goes next at l at) parts goes)

    begins-at : split.0 ≡ Some (get_or ms 0 0)
    begins-at =
        let rest = subst (λ l. Goes next split.0 l at) (drop_more ns is.0 0 is.1) split.2 in
        rest.0 ∙ ap Some (sym turned-least)

    pub turned-goes : Goes next (Some (get_or ms 0 0)) ms (Some (get_or ms 0 0))
    turned-goes =
        let round = goes-join next split.0 at split.0 (drop is.0 ns) (take is.0 ns) split.2 split.1 in
        subst (λ m. Goes next m ms m) begins-at (subst (λ l. Goes next split.0 l split.0) (sym is.2) round)

    -- a walk that comes to where the numbers begin comes to the least
    pub turned-leads : (ks : List ℕ) (from : Option ℕ) → Goes next from ks at → Goes next from (ks ++ take is.0 ns) (Some (get_or ms 0 0))
    turned-leads ks from to = subst (λ m. Goes next from (ks ++ take is.0 ns) m) begins-at (goes-join next from at split.0 ks (take is.0 ns) to split.1)

-- from a number on
pub goes-drop : (next : List (Option ℕ)) (at end : Option ℕ) (ns : List ℕ) (i n : ℕ) → Goes next at ns end → slice_get ns i ≡ Some n → Goes next (Some n) (drop i ns) end
goes-drop next at end [] i n goes is = absurd (let bad : None ≡ Some n = is in cc)
goes-drop next at end (m ∷ ns) zero n goes is = (sym is, goes.1)
goes-drop next at end (m ∷ ns) (suc i) n goes is = goes-drop next (next_at next m) end ns i n goes.1 is

pub once-drop : (ns : List ℕ) (i : ℕ) → AreOnce ns → AreOnce (drop i ns)
once-drop ns i once = (once-parts (take i ns) (drop i ns) (subst AreOnce (sym (take-append-drop i ns)) once)).1

pub in-drop : (ns : List ℕ) (i n : ℕ) → IsIn (drop i ns) n → IsIn ns n
in-drop ns i n is = subst (λ l. IsIn l n) (take-append-drop i ns) (in-right (take i ns) (drop i ns) n is)
