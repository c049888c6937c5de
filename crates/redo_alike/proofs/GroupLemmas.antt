-- Groups of nodes, one more at a time.
use Rattle.std.proofs.Common.{◌≡◌, ◌∙◌, ◌<◌, ◌≤◌, ◌+◌, inl, inr, ℕ, List, Option, Some, None, sym, ap, subst, arith, length, set, map, get_or, slice_get, true≢false}
use Rattle.std.proofs.lemmas.Bool.{cases_eq}
use Rattle.std.proofs.lemmas.List.{length-map, length-set}
use Rattle.std.proofs.lemmas.Option.{none-some, same_Some, slice_get-get_or, slice_get_within}
use Rattle.redo_alike.specs.Alike.{AreTogether, IsAlone, IsFree, IsOrder, LeadsTo, NeedSameGroups, Needs, NeedsGroup, kind_of}
use Rattle.redo_alike.specs.declared.graph.Kind.{Kind}
use Rattle.redo_alike.specs.declared.graph.Node.{Node}
use Rattle.redo_alike.specs.declared.groups.Key.{Key}
use Rattle.redo_alike.specs.declared.groups.Key.TheVariants.{Own, Shared}
use Rattle.redo_alike.specs.inside.Groups.{AreGroups, AreKeyed, IsKey, IsKeyed, IsSame, IsShared}
use Rattle.redo_alike.specs.inside.Known.{known_at}
use Rattle.redo_alike.proofs.KeyLemmas.{IsInserted}
use Rattle.redo_alike.proofs.KnownLemmas.{known-all, known-back, known-before, known-here, known-new, known-still}
use Rattle.redo_alike.proofs.ListLemmas.{front-in, get-in, in-get}
use Rattle.redo_alike.proofs.SetLemmas.{same-increasing}

module _ (nodes : List Node) where
  -- ---- what a key says stays so where more groups are known
  shared-kept : (old new : ℕ → Option ℕ) (n : ℕ) (kind : Kind) (groups : List ℕ) → ((m g : ℕ) → old m ≡ Some g → new m ≡ Some g) →
      IsShared nodes old n kind groups → IsShared nodes new n kind groups
  shared-kept old new n kind groups more s = record {
    node = s.node;
    there = s.there;
    kinds = s.kinds;
    not_alone = s.not_alone;
    known = λ m need. let k = s.known m need in (k.0, more m k.0 k.1);
    below = (
      s.below.0,
      λ g. (
        (λ is. let f = (s.below.1 g).0 is in (f.0, f.1, more f.0 g f.2)),
        (λ f.
            let k = s.known f.0 f.1 in
            let e : Some k.0 ≡ Some g = sym (more f.0 k.0 k.1) ∙ f.2 in
            (s.below.1 g).1 (f.0, f.1, k.1 ∙ e)),
      ),
    );
  }

  keyed-kept : (old new : ℕ → Option ℕ) (n : ℕ) (key : Key) → ((m g : ℕ) → old m ≡ Some g → new m ≡ Some g) →
      IsKeyed nodes old n key → IsKeyed nodes new n key
  keyed-kept old new n (Own m) more is = is
  keyed-kept old new n (Shared kind groups) more is = shared-kept old new n kind groups.items more is

  -- a key that is the same says the same
  pub keyed-same : (group : ℕ → Option ℕ) (n : ℕ) (key other : Key) → IsSame key other → IsKeyed nodes group n key → IsKeyed nodes group n other
  keyed-same group n (Own m) (Own k) same is = (sym same ∙ is.0, is.1)
  keyed-same group n (Own m) (Shared kind groups) none is = absurd none
  keyed-same group n (Shared kind groups) (Own k) none is = absurd none
  keyed-same group n (Shared kind groups) (Shared other others) same is =
      subst (λ l. IsShared nodes group n other l) same.1 (subst (λ k. IsShared nodes group n k groups.items) same.0 is)

  -- a node with a group of its own may not be with others
  keyed-from : (group : ℕ → Option ℕ) (n : ℕ) (key : Key) → ((m : ℕ) → Needs nodes n m → group m ≡ None → LeadsTo nodes m n) →
      IsKey nodes group n key → IsKeyed nodes group n key
  keyed-from group n (Own m) closes is = (
    is.0,
    λ free. elim is.1 [
      | inl alone ↦
          let e : alone.0 ≡ free.0 = same_Some alone.0 free.0 (sym alone.1 ∙ free.1) in
          true≢false (sym alone.2 ∙ ap (λ (node : Node). node.alone) e ∙ free.2)
      | inr low ↦ free.3 low.0 low.1 (closes low.0 low.1 low.2)
    ],
  )
  keyed-from group n (Shared kind groups) closes is = is

  module _ (order : List ℕ) (o : IsOrder nodes order) where
    -- ---- one more
    module _ (known : List (Option ℕ)) (keys : List Key) (i : ℕ) (k : AreKeyed nodes order known keys i) where
      -- a need without a group leads back
      pub keyed-at : (x : ℕ) (key : Key) → slice_get order i ≡ Some x → IsKey nodes (known_at known) x key → IsKeyed nodes (known_at known) x key
      keyed-at x key at is = keyed-from (known_at known) x key (λ m need none. elim (o.closes i x m at need) [
        | inl before ↦
            let found = front-in i order m before in
            let there = k.first found.0 m found.1 found.2 in
            absurd (none-some there.0 (sym none ∙ there.1))
        | inr leads ↦ leads
      ]) is

      pub keyed-more : (after : List Key) (x g : ℕ) (key : Key) → slice_get order i ≡ Some x → x < length known →
          IsKeyed nodes (known_at known) x key → slice_get after g ≡ Some key → IsInserted keys after g →
          ((h j : ℕ) (one other : Key) → slice_get after h ≡ Some one → slice_get after j ≡ Some other → IsSame one other → h ≡ j) →
          AreKeyed nodes order (set known x (Some g)) after (i + 1)
      keyed-more after x g key at under is there ins apart =
          let new = known-new order known i x o.once at k.back in
          let still = known-still known x g new in
          record {
            size = length-set known x (Some g) ∙ k.size;
            first = λ j n low pos. elim (cases_eq j i) [
              | inl same ↦
                  let e : Some x ≡ Some n = sym at ∙ ap (slice_get order) (sym same) ∙ pos in
                  let x_n : x ≡ n = cc in
                  (g, subst (λ m. known_at (set known x (Some g)) m ≡ Some g) x_n (known-here known x g under))
              | inr other ↦
                  let old = k.first j n (omega (arith, low, other)) pos in
                  (old.0, still n old.0 old.1)
            ];
            back = known-back known x g order i under at k.back;
            keyed = λ n h is'. elim (known-before known x g under n h is') [
              | inl here ↦ (
                key,
                subst (λ m. slice_get after m ≡ Some key) here.1 there,
                subst (λ m. IsKeyed nodes (known_at (set known x (Some g))) m key) (sym here.0)
                    (keyed-kept (known_at known) (known_at (set known x (Some g))) x key still is),
              )
              | inr old ↦
                  let f = k.keyed n h old in (
                    f.0,
                    ins.kept h f.0 f.1,
                    keyed-kept (known_at known) (known_at (set known x (Some g))) n f.0 still f.2,
                  )
            ];
            apart = apart;
            few = omega (arith, ins.one, k.few);
            each = λ j low. elim (ins.each j low) [
              | inl old ↦
                  let f = k.each j old in
                  (f.0, still f.0 j f.1)
              | inr same ↦ (x, known-here known x g under ∙ ap Some (sym same))
            ];
          }

      -- ---- all
      module _ (whole : length order ≤ i) where
        pub keyed-known : (n : ℕ) → n < length known → (g : ℕ) × (known_at known n ≡ Some g)
        keyed-known n low =
            let at = in-get order n (o.all n (omega (arith, low, k.size))) in
            let under : at.0 < length order = slice_get_within order at.0 n at.1 in
            k.first at.0 n (omega (arith, under, whole)) at.1

        module _ (groups : List ℕ) (same : map Some groups ≡ known) where
          group-at : (n : ℕ) → slice_get groups n ≡ known_at known n
          group-at n = sym (known-all groups n) ∙ ap (λ l. known_at l n) same

          -- the key of a node
          key-at : (n g : ℕ) → slice_get groups n ≡ Some g → (key : Key) × (slice_get keys g ≡ Some key) × IsKeyed nodes (slice_get groups) n key
          key-at n g is =
              let f = k.keyed n g (sym (group-at n) ∙ is) in
              (f.0, f.1, keyed-kept (known_at known) (slice_get groups) n f.0 (λ m h old. group-at m ∙ old) f.2)

          -- two of one group have one key
          one-key : (a b : ℕ) → AreTogether groups a b → (key : Key) × IsKeyed nodes (slice_get groups) a key × IsKeyed nodes (slice_get groups) b key
          one-key a b both =
              let p = key-at a both.0 both.1 in
              let q = key-at b both.0 both.2 in
              let e : q.0 ≡ p.0 = same_Some q.0 p.0 (sym q.1 ∙ p.1) in
              (p.0, p.2, subst (λ key. IsKeyed nodes (slice_get groups) b key) e q.2)

          shared-kind : (n : ℕ) (kind : Kind) (below : List ℕ) → IsShared nodes (slice_get groups) n kind below → kind_of (slice_get nodes n) ≡ Some kind
          shared-kind n kind below s = ap kind_of s.there ∙ ap Some s.kinds

          keyed-kind : (a b : ℕ) (key : Key) → IsKeyed nodes (slice_get groups) a key → IsKeyed nodes (slice_get groups) b key →
              kind_of (slice_get nodes a) ≡ kind_of (slice_get nodes b)
          keyed-kind a b (Own m) p q = ap (λ n. kind_of (slice_get nodes n)) (sym p.0 ∙ q.0)
          keyed-kind a b (Shared kind below) p q = shared-kind a kind below.items p ∙ sym (shared-kind b kind below.items q)

          keyed-needs : (a b : ℕ) (key : Key) → IsKeyed nodes (slice_get groups) a key → IsKeyed nodes (slice_get groups) b key →
              NeedSameGroups nodes groups a b
          keyed-needs a b (Own m) p q g = (
            subst (λ n. NeedsGroup nodes (slice_get groups) n g) (sym p.0 ∙ q.0),
            subst (λ n. NeedsGroup nodes (slice_get groups) n g) (sym q.0 ∙ p.0),
          )
          keyed-needs a b (Shared kind below) p q g = (
            (λ need. (q.below.1 g).0 ((p.below.1 g).1 need)),
            (λ need. (p.below.1 g).0 ((q.below.1 g).1 need)),
          )

          keyed-alone : (a b : ℕ) (key : Key) → IsKeyed nodes (slice_get groups) a key → IsKeyed nodes (slice_get groups) b key → IsAlone nodes a → a ≡ b
          keyed-alone a b (Own m) p q alone = sym p.0 ∙ q.0
          keyed-alone a b (Shared kind below) p q alone =
              let e : alone.0 ≡ p.node = same_Some alone.0 p.node (sym alone.1 ∙ p.there) in
              absurd (true≢false (sym alone.2 ∙ ap (λ (node : Node). node.alone) e ∙ p.not_alone))

          -- two that may be with others, with one kind and the same groups, have one key
          keys-same : (a b : ℕ) (key other : Key) → IsKeyed nodes (slice_get groups) a key → IsKeyed nodes (slice_get groups) b other →
              IsFree nodes a → IsFree nodes b → kind_of (slice_get nodes a) ≡ kind_of (slice_get nodes b) → NeedSameGroups nodes groups a b → IsSame key other
          keys-same a b (Own m) other p q free free' kinds needs = absurd (p.1 free)
          keys-same a b (Shared kind below) (Own m) p q free free' kinds needs = absurd (q.1 free')
          keys-same a b (Shared kind below) (Shared kind' below') p q free free' kinds needs = (
            same_Some kind kind' (sym (shared-kind a kind below.items p) ∙ kinds ∙ shared-kind b kind' below'.items q),
            same-increasing below.items below'.items p.below.0 q.below.0
                (λ g is. (q.below.1 g).1 ((needs g).0 ((p.below.1 g).0 is)))
                (λ g is. (p.below.1 g).1 ((needs g).1 ((q.below.1 g).0 is))),
          )

          group-of : (n : ℕ) → IsFree nodes n → (g : ℕ) × (slice_get groups n ≡ Some g)
          group-of n free =
              let low : n < length nodes = slice_get_within nodes n free.0 free.1 in
              let f = keyed-known n (omega (arith, low, k.size)) in
              (f.0, group-at n ∙ f.1)

          free-together : (a b : ℕ) → IsFree nodes a → IsFree nodes b → kind_of (slice_get nodes a) ≡ kind_of (slice_get nodes b) →
              NeedSameGroups nodes groups a b → AreTogether groups a b
          free-together a b free free' kinds needs =
              let p = group-of a free in
              let q = group-of b free' in
              let key = key-at a p.0 p.1 in
              let other = key-at b q.0 q.1 in
              let e : p.0 ≡ q.0 = k.apart p.0 q.0 key.0 other.0 key.1 other.1 (keys-same a b key.0 other.0 key.2 other.2 free free' kinds needs) in
              (p.0, p.1, q.1 ∙ ap Some (sym e))

          group-low : (n g : ℕ) → slice_get groups n ≡ Some g → g < length keys
          group-low n g is = let f = key-at n g is in slice_get_within keys g f.0 f.1

          pub keyed-groups : i ≤ length nodes → AreGroups nodes groups
          keyed-groups few = record {
            size = sym (length-map groups Some) ∙ ap length same ∙ k.size;
            bound = λ n d low. let top = group-low n (get_or groups n d) (slice_get-get_or groups n d low) in omega (arith, top, k.few, few);
            numbered = λ n d low other below.
                let top = group-low n (get_or groups n d) (slice_get-get_or groups n d low) in
                let f = k.each other (omega (arith, below, top)) in
                get-in groups f.0 other (group-at f.0 ∙ f.1);
            kind = λ a b both. let one = one-key a b both in keyed-kind a b one.0 one.1 one.2;
            needs = λ a b both. let one = one-key a b both in keyed-needs a b one.0 one.1 one.2;
            alone = λ a b both. let one = one-key a b both in keyed-alone a b one.0 one.1 one.2;
            together = free-together;
          }
