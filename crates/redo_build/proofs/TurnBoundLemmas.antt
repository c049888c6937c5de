-- A target's turn stays below the number of entries.
use Rattle.std.proofs.Common.{◌≡◌, ℕ, zero, suc, ◌<◌, inl, inr, List, [], ◌∷◌, length, Some, None, refl, sym, ap, subst}
use Rattle.std.proofs.Common.{◌∙◌, arith}
use Rattle.redo_names.proofs.ListLemmas.{within-length, IsAmong-same}
use Rattle.redo_record.specs.Paths.{IsAmong, AreDistinct}
use Rattle.redo_record.specs.declared.deps.Dep.{Dep}
use Rattle.redo_build.specs.Rules.{Ask, Rules, AreLawful, operands}
use Rattle.redo_build.specs.Schedule.{Entry, paths_of, entry_of, outcomes_of, only}
use Rattle.redo_build.specs.inside.Turns.{deps_at_turn, CameTo}
use Rattle.redo_build.specs.inside.Standing.{AreStanding, rounds}
use Rattle.redo_build.proofs.SeenLemmas.{entry_of-among, outcomes_of-at}
use Rattle.redo_build.proofs.TurnLemmas.{only-among, CameTo-before, asked-more}

-- some paths asked for at one turn after another, the last first, each once
pub record HasAsked (r : Rules) (p : List ℕ) (a : Ask) (turn : ℕ) : Type 0 where
  pub paths : List (List ℕ)
  pub distinct : AreDistinct paths
  pub inside : (q : List ℕ) → IsAmong paths q → IsAmong (operands r (deps_at_turn r p a turn)) q
  pub many : length paths ≡ turn

module _ (r : Rules) (lawful : AreLawful r) where
  has_asked : (p : List ℕ) (a : Ask) (turn : ℕ) → CameTo r p a turn → HasAsked r p a turn
  has_asked p a zero came = record { paths = []; distinct = tt; inside = λ q m. absurd m; many = refl }
  has_asked p a (suc k) came =
      let before = CameTo-before r lawful p a k came in
      let old = has_asked p a k before in
      let lack = (lawful.each p).lacking (only (operands r (deps_at_turn r p a k)) a) (came.stopped k (omega arith)) in
      let new : IsAmong (operands r (deps_at_turn r p a k)) lack.0 → ⊥ = λ m.
      came.answered k lack.0 (omega arith) m (sym (only-among (operands r (deps_at_turn r p a k)) a lack.0 m) ∙ lack.2) in
      record {
        paths = lack.0 ∷ old.paths;
        distinct = (λ m. new (old.inside lack.0 m), old.distinct);
        inside = λ q m. elim m [
          | inl here ↦ IsAmong-same (operands r (deps_at_turn r p a (suc k))) lack.0 q here lack.1
          | inr later ↦ asked-more r lawful p a k before q (old.inside q later)
        ];
        many = ap suc old.many;
      }

  -- the turn of a target that has every answer it asked for is below the number of entries
  pub turn-below : (request : List (List ℕ)) (es : List Entry) → AreStanding r request es → (p : List ℕ) (e : Entry) → entry_of es p ≡ Some e →
      e.outcome ≡ None → ((q : List ℕ) → IsAmong (operands r e.deps) q → outcomes_of es q ≡ None → ⊥) →
      rounds e < length (paths_of es)
  turn-below request es standing p e at open' fed =
      let way = standing.under_way p e at open' in
      let asked = has_asked e.path (outcomes_of es) (rounds e) way.came in
      let P : List Dep → (List ℕ) → Type 0 = λ ds q. IsAmong (operands r ds) q in
      let deps : (q : List ℕ) → IsAmong asked.paths q → IsAmong (operands r e.deps) q = λ q m.
      (let Q : List Dep → Type 0 = λ ds. IsAmong (operands r ds) q in subst Q (sym way.is) (asked.inside q m)) in
      let itself : IsAmong asked.paths p → ⊥ = λ m. fed p (deps p m) (outcomes_of-at es p e at ∙ open') in
      let all = within-length (p ∷ asked.paths) (paths_of es) (itself, asked.distinct) (λ q m. elim m [
        | inl here ↦ IsAmong-same (paths_of es) p q here (entry_of-among es p e at)
        | inr later ↦ standing.closed p q e at (deps q later)
      ]) in
      omega (arith, all, asked.many)
