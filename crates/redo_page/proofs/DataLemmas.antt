-- Paths that have no row, one more at a time.
use Rattle.std.proofs.Common.{◌≡◌, ◌∙◌, ◌+◌, ℕ, zero, suc, List, [], ◌∷◌, ◌++◌, Some, ap, arith, drop}
use Rattle.std.proofs.Common.{append_assoc}
use Rattle.std.specs.Map.{keys_of}
use Rattle.std.specs.Prelude.{slice_get}

some-same : {X : Type 0} (x y : X) → Some x ≡ Some y → x ≡ y
some-same x y is = cc

key-left : (es : List (List ℕ × ℕ)) (i : ℕ) (p : List ℕ) (n : ℕ) → slice_get es i ≡ Some (p, n) →
    drop i (keys_of es) ≡ p ∷ drop (suc i) (keys_of es)
key-left [] i p n is = absurd (cc)
key-left (e ∷ es) zero p n is = ap (λ k. k.0 ∷ keys_of es) (some-same e (p, n) is)
key-left (e ∷ es) (suc i) p n is = key-left es i p n is

-- the keys that are left begin with this one
pub key-next : (es : List (List ℕ × ℕ)) (i : ℕ) (p : List ℕ) (n : ℕ) → slice_get es i ≡ Some (p, n) →
    drop i (keys_of es) ≡ p ∷ drop (i + 1) (keys_of es)
key-next es i p n is =
    let more : suc i ≡ i + 1 = omega arith in
    key-left es i p n is ∙ ap (λ (k : ℕ). p ∷ drop k (keys_of es)) more

-- two texts were added to what was there, with what is left behind them
pub two-added : (out mid new one two rest all : List ℕ) → mid ≡ out ++ one → new ≡ mid ++ two → out ++ (one ++ (two ++ rest)) ≡ all →
    new ++ rest ≡ all
two-added out mid new one two rest all first then is =
    ap (λ n. n ++ rest) (then ∙ ap (λ m. m ++ two) first) ∙ append_assoc (out ++ one) two rest ∙ append_assoc out one (two ++ rest) ∙ is
