-- A vector with room for an item more.
use Rattle.std.proofs.Common.{◌≡◌, ◌∙◌, ◌<◌, ◌≤◌, ◌^◌, ℕ, ap, arith, length, sym, take_all}
use Rattle.std.proofs.lemmas.List.Edits.{length-insert}
use Rattle.std.specs.Global.{Vec}
use Rattle.std.specs.List.{insert}
use Rattle.std.specs.Vec.{SameBlock, vec_capacity, vec_len}
use Rattle.redo_past.specs.inside.Books.{with_more}
use mathlib.Core.HLevel.{is_prop→PathP}
use native.Mathlib.Bridge.{le_prop}
use native.Mathlib.Nat.{ℕ_set}

module _ {X : Type 0} where
  -- with room it has all items and the new one
  pub more-items : (v : Vec X) (i : ℕ) (x : X) → vec_len v < vec_capacity v → i ≤ length v.items → (with_more v i x).items ≡ insert v.items i x
  more-items v i x room within = take_all v.cap (insert v.items i x) (omega (arith, length-insert v.items i x within, v.ok.0))

  same-vec : (v w : Vec X) → v.ptr ≡ w.ptr → v.len ≡ w.len → v.cap ≡ w.cap → v.alloc ≡ w.alloc → v.items ≡ w.items → v ≡ w
  same-vec v w p l c a xs = λ j. record {
    ptr = p j;
    len = l j;
    cap = c j;
    alloc = a j;
    items = xs j;
    ok = is_prop→PathP (λ k. (l k ≡ length (xs k)) × (l k ≤ c k)) (λ k x y m. (ℕ_set _ _ x.0 y.0 m, le_prop x.1 y.1 m)) v.ok w.ok j;
    small = is_prop→PathP (λ k. c k < 2 ^ 63) (λ k x y. le_prop x y) v.small w.small j;
  }

  -- what comes of an insertion in place
  pub is-more : (v w : Vec X) (i : ℕ) (x : X) → vec_len v < vec_capacity v → i ≤ length v.items → w.items ≡ insert v.items i x → SameBlock v w → w ≡ with_more v i x
  is-more v w i x room within items block =
      let same : w.items ≡ (with_more v i x).items = items ∙ sym (more-items v i x room within) in
      same-vec w (with_more v i x) block.0 (w.ok.0 ∙ ap length same) block.1.0 block.1.1 same
