-- Bytes that are added one after the other.
use Rattle.std.proofs.Common.{◌≡◌, ℕ, true, false, not, inl, inr, List, [], ◌++◌, length, refl, sym, ◌∙◌, arith}
use Rattle.std.proofs.Common.{append_assoc, length-append, subst}
use Rattle.std.specs.Prelude.{nat_le}
use Rattle.std.proofs.lemmas.Bool.Decides.{leb_tells}
use Rattle.std.proofs.lemmas.List.{append-nil}
use Rattle.redo_step.specs.declared.sink.Sink.{Sink}
use Rattle.redo_step.specs.inside.Sink.{Holds, Grows, Adds}

pub grows-nil : (s : Sink) → Grows s s
grows-nil s = ([], sym (append-nil s.bytes.items))

pub grows-trans : (a b c : Sink) → Grows a b → Grows b c → Grows a c
grows-trans a b c x y = (x.0 ++ y.0, y.1 ∙ rw x.1 (append_assoc a.bytes.items x.0 y.0))

pub adds-nil : (s : Sink) → Adds [] s s
adds-nil s = record { limit = refl; grows = grows-nil s; holds = λ base before h. rw (append-nil before) h }

pub adds-trans : (x y : List ℕ) (a b c : Sink) → Adds x a b → Adds y b c → Adds (x ++ y) a c
adds-trans x y a b c f g = record {
  limit = g.limit ∙ f.limit;
  grows = grows-trans a b c f.grows g.grows;
  holds = λ base before h. rw (← append_assoc before x y) (g.holds base (before ++ x) (f.holds base before h));
}

over_more : (base x y : List ℕ) (limit : ℕ) → true ≡ not (nat_le (length (base ++ x)) limit) → true ≡ not (nat_le (length (base ++ (x ++ y))) limit)
over_more base x y limit h =
    elim (leb_tells (length (base ++ (x ++ y))) limit) [
      | inl fits ↦ elim (leb_tells (length (base ++ x)) limit) [
        | inl short ↦ absurd (let bad : true ≡ false = rw short.0 at h in cc)
        | inr long ↦ absurd (let l = long.1 in let f = fits.1 in let a = length-append base (x ++ y) in let b = length-append x y in let d = length-append base x in omega arith)
      ]
      | inr long ↦ rw long.0 refl
    ]

-- what is too long stays so
pub adds-over : (x y : List ℕ) (a b : Sink) → b.is_over ≡ true → Adds x a b → Adds (x ++ y) a b
adds-over x y a b over f = record {
  limit = f.limit;
  grows = f.grows;
  holds = λ base before h.
      let k : Holds base (before ++ x) b = f.holds base before h in
      let long : true ≡ not (nat_le (length (base ++ (before ++ x))) b.limit) = sym over ∙ k.over in
      record {
        over = over ∙ rw (← append_assoc before x y) (over_more base (before ++ x) y b.limit long);
        all = λ fits. absurd (let bad : true ≡ false = sym over ∙ fits in cc);
      };
}

pub adds-same : (x y : List ℕ) (a b : Sink) → x ≡ y → Adds x a b → Adds y a b
adds-same x y a b e f = let P : List ℕ → Type 0 = λ l. Adds l a b in subst P e f
