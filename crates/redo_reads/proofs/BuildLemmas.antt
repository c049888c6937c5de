-- Two builds in which each target that the first needs comes as far, with the answers of the first, are one.
use Rattle.std.proofs.Common.{◌≡◌, ℕ, zero, suc, ◌≤◌, Bool, not, cond, inl, inr, Option, Some, None}
use Rattle.std.proofs.Common.{List, [], ◌∷◌, ◌++◌, filter, flat_map, refl, sym, ap, ap₂, subst, ◌∙◌, arith}
use Rattle.std.specs.Prelude.{unwrap_or}
use Rattle.redo_record.specs.Paths.{IsAmong, with_new}
use Rattle.redo_record.specs.Progress as asked
use Rattle.redo_record.specs.Progress.{Progress}
use Rattle.redo_record.specs.declared.deps.Dep.{Dep}
use Rattle.redo_record.specs.declared.outcome.Outcome.{Outcome}
use Rattle.redo_record.specs.declared.outcome.Outcome.TheVariants.{Cyclic, Source}
use Rattle.redo_build.specs.Outcomes.{IsSettled, asked_at, final_outcome, needed_at}
use Rattle.redo_build.specs.Outcomes.{outcome_at, reached_in, record_of}
use Rattle.redo_build.specs.Rules.{Rules, AreLawful, asked_under}
use Rattle.redo_build.proofs.DepthLemmas.{reached-more}

flat_map_same : (f g : List ℕ → List (List ℕ)) (ps : List (List ℕ)) →
    ((p : List ℕ) → IsAmong ps p → g p ≡ f p) → flat_map g ps ≡ flat_map f ps
flat_map_same f g [] same = refl
flat_map_same f g (p ∷ ps) same =
    ap₂ (λ (xs ys : List (List ℕ)). xs ++ ys) (same p (inl refl)) (flat_map_same f g ps (λ q m. same q (inr m)))

-- the second rules behave as the first, with the answers of the first build at each depth up to the limit
pub record Follow (r q : Rules) (request : List (List ℕ)) (limit : ℕ) : Type 0 where
  pub source : q.is_source ≡ r.is_source
  pub ruled : q.has_rule ≡ r.has_rule
  pub step : (n : ℕ) → n ≤ limit → (p : List ℕ) → IsAmong (needed_at r request limit) p →
      q.progress p (outcome_at r n) ≡ r.progress p (outcome_at r n)
  pub begins : (p : List ℕ) → IsAmong (needed_at r request limit) p →
      q.begins p (outcome_at r limit) ≡ r.begins p (outcome_at r limit)
  pub recorded : (p : List ℕ) → IsAmong (needed_at r request limit) p →
      q.recorded p (outcome_at r limit) ≡ r.recorded p (outcome_at r limit)

module _ (r q : Rules) (r_lawful : AreLawful r) (q_lawful : AreLawful q) (request : List (List ℕ)) (limit : ℕ)
    (settled : IsSettled r request limit) (follow : Follow r q request limit) where
  abbrev IsNeeded : List ℕ → Type 0
  IsNeeded p = IsAmong (needed_at r request limit) p

  pub source_same : (p : List ℕ) → q.is_source p ≡ r.is_source p
  source_same p = ap (λ (f : List ℕ → Bool). f p) follow.source

  asks_within : (n : ℕ) → n ≤ limit → (p : List ℕ) → IsNeeded p → (x : List ℕ) →
      IsAmong (asked_under q p (outcome_at r n)) x → IsNeeded x
  asks_within n le p m x asks =
      let same : asked_under q p (outcome_at r n) ≡ asked_at r n p =
      ap₂ (λ (source : List ℕ → Bool) (deps : List Dep). asked.operands source deps) follow.source
      (ap (λ (y : Progress). y.deps) (follow.step n le p m)) in
      settled.closed n p x m (subst (λ (ps : List (List ℕ)). IsAmong ps x) same asks)

  came_by : (n : ℕ) → n ≤ limit → ((p : List ℕ) → IsNeeded p → outcome_at q n p ≡ outcome_at r n p) →
      (p : List ℕ) → IsNeeded p → q.progress p (outcome_at q n) ≡ r.progress p (outcome_at r n)
  came_by n le same p m =
      sym ((q_lawful.each p).local (outcome_at r n) (outcome_at q n)
      (λ x asks. sym (same x (asks_within n le p m x asks))))
      ∙ follow.step n le p m

  outcome_same : (n : ℕ) → n ≤ limit → (p : List ℕ) → IsNeeded p → outcome_at q n p ≡ outcome_at r n p
  outcome_same zero le p m = ap (λ (b : Bool). cond b (Some Source) None) (source_same p)
  outcome_same (suc n) le p m =
      ap₂ (λ (b : Bool) (x : Progress). cond b (Some Source) x.outcome) (source_same p)
      (came_by n (omega (arith, le)) (outcome_same n (omega (arith, le))) p m)

  outcome_ends : (p : List ℕ) → IsNeeded p → outcome_at q limit p ≡ outcome_at r limit p
  outcome_ends = outcome_same limit (omega arith)

  asked_same : (p : List ℕ) → IsNeeded p → asked_at q limit p ≡ asked_at r limit p
  asked_same p m =
      ap₂ (λ (source : List ℕ → Bool) (deps : List Dep). asked.operands source deps) follow.source
      (ap (λ (y : Progress). y.deps) (came_by limit (omega arith) outcome_ends p m))

  reached_same : (k : ℕ) → k ≤ limit → reached_in q request limit k ≡ reached_in r request limit k
  reached_same zero le =
      ap (λ (source : List ℕ → Bool). with_new [] (filter (λ (p : List ℕ). not (source p)) request)) follow.source
  reached_same (suc k) le =
      let before : List (List ℕ) = reached_in r request limit k in
      ap (λ (ps : List (List ℕ)). with_new ps (flat_map (asked_at q limit) ps)) (reached_same k (omega (arith, le)))
      ∙ ap (λ (ps : List (List ℕ)). with_new before ps)
      (flat_map_same (asked_at r limit) (asked_at q limit) before
      (λ p m. asked_same p (reached-more r r_lawful request limit k limit p (omega (arith, le)) m)))

  pub needed_same : needed_at q request limit ≡ needed_at r request limit
  needed_same = reached_same limit (omega arith)

  pub final_same : (p : List ℕ) → IsNeeded p → final_outcome q limit p ≡ final_outcome r limit p
  final_same p m = ap (λ (o : Option Outcome). unwrap_or o Cyclic) (outcome_ends p m)

  answers_same : (p : List ℕ) → IsNeeded p → (x : List ℕ) → IsAmong (asked_under q p (outcome_at r limit)) x →
      outcome_at r limit x ≡ outcome_at q limit x
  answers_same p m x asks = sym (outcome_ends x (asks_within limit (omega arith) p m x asks))

  pub record_same : (p : List ℕ) → IsNeeded p → record_of q limit p ≡ record_of r limit p
  record_same p m =
      sym (q_lawful.recorded_local p (outcome_at r limit) (outcome_at q limit) (answers_same p m))
      ∙ follow.recorded p m

  pub begins_same : (p : List ℕ) → IsNeeded p →
      q.begins p (outcome_at q limit) ≡ r.begins p (outcome_at r limit)
  begins_same p m =
      sym (q_lawful.begins_local p (outcome_at r limit) (outcome_at q limit) (answers_same p m))
      ∙ follow.begins p m
