-- The rows of a report tell whether every requested path is a source or built.
use Rattle.std.proofs.Common.{◌≡◌, ℕ, zero, suc, Bool, true, false, not, inl, inr, List, []}
use Rattle.std.proofs.Common.{◌∷◌, map, filter, refl, sym, ap, subst, ◌∙◌, arith}
use Rattle.std.specs.Prelude.{All, flat_map}
use Rattle.std.specs.List.{list_any}
use Rattle.std.proofs.lemmas.Bool.{cases_Bool, both_ways}
use Rattle.std.specs.Arc.{arc_value}
use Rattle.redo_names.proofs.ListLemmas.{with_new-cases, with_new-first, with_new-second}
use Rattle.redo_names.proofs.PathLemmas.{among-told, told-among}
use Rattle.redo_build.specs.Outcomes.{asked_at, final_outcome, needed_at, reached_in, requested_targets}
use Rattle.redo_record.specs.Paths.{IsAmong, is_among, with_new}
use Rattle.redo_report.specs.Reports.{IsReport, deps_of, row_paths}
use Rattle.redo_build.specs.Rules.{Rules}
use Rattle.redo_report.specs.declared.report.Report.{Report}
use Rattle.redo_report.specs.declared.report.Row.{Row}
use Rattle.redo_build.proofs.QueueLemmas.{filter-keeps}
use Rattle.redo_run.specs.declared.exit.Exit.TheVariants.{Good, SomeFailed}
use Rattle.redo_run.specs.Exits.{AllAreMade, IsExit, fails, is_made}

module _ (P : Row → Type 0) (f : Row → Bool) where
  -- one of the rows passes
  any-found : (rows : List Row) → All P rows → list_any f rows ≡ true → (row : Row) × P row × (f row ≡ true)
  any-found [] all h = cc
  any-found (row ∷ rows) all h = elim (cases_Bool (f row)) [
    | inl t ↦ (row, all 0 row (omega arith), t)
    | inr out ↦ any-found rows (λ k d l. all (suc k) d (omega (arith, l))) (rw out at h)
  ]

  -- none of the rows passes, so that of a path does not
  none-passes : (rows : List Row) → All P rows → list_any f rows ≡ false → (p : List ℕ) → IsAmong (map (λ row. row.path) rows) p →
      (row : Row) × P row × (f row ≡ false) × (row.path ≡ p)
  none-passes [] all h p m = absurd m
  none-passes (row ∷ rows) all h p m = elim (cases_Bool (f row)) [
    | inl t ↦ absurd (let now = rw t at h in cc)
    | inr out ↦ elim m [
      | inl here ↦ (row, all 0 row (omega arith), out, here)
      | inr later ↦ none-passes rows (λ k d l. all (suc k) d (omega (arith, l))) (rw out at h) p later
    ]
  ]

module _ (r : Rules) (request : List (List ℕ)) where
  -- what is requested and no source is needed
  reached-requested : (n steps : ℕ) (p : List ℕ) → IsAmong (requested_targets r request) p → IsAmong (reached_in r request n steps) p
  reached-requested n zero p m = m
  reached-requested n (suc steps) p m = with_new-first (reached_in r request n steps) (flat_map (asked_at r n) (reached_in r request n steps)) p (reached-requested n steps p m)

  requested-needed : (n : ℕ) (p : List ℕ) → IsAmong request p → r.is_source p ≡ false → IsAmong (needed_at r request n) p
  requested-needed n p m target =
      reached-requested n n p (with_new-second [] (filter (λ q. not (r.is_source q)) request) p
      (filter-keeps (λ q. not (r.is_source q)) request p m (rw target refl)))

module _ (r : Rules) (limit : ℕ) (request : List (List ℕ)) (report : Report) (is : IsReport r request limit report) where
  -- the row is the truth
  abbrev IsTrueRow : Row → Type 0
  IsTrueRow row = (row.outcome ≡ final_outcome r limit row.path) × (arc_value row.deps ≡ deps_of r limit row.path)

  abbrev keys : List (List ℕ)
  keys = with_new [] request

  has-row : (p : List ℕ) → IsAmong request p → IsAmong (row_paths report) p
  has-row p m = elim (cases_Bool (r.is_source p)) [
    | inl t ↦ (is.rows p).1 (inr (m, t))
    | inr f ↦ (is.rows p).1 (inl (requested-needed r request limit p m f))
  ]

  pub exit-good : list_any (fails keys) report.rows.items ≡ false → IsExit r limit request Good
  exit-good none = (
    λ _ p m.
        let found = none-passes IsTrueRow (fails keys) report.rows.items is.outcomes none p (has-row p m) in
        let F : List ℕ → Type 0 = λ x. IsAmong keys x in
        let listed = told-among keys found.0.path (subst F (sym found.3) (with_new-second [] request p m)) in
        let outcome : found.0.outcome ≡ final_outcome r limit p = found.1.0 ∙ ap (final_outcome r limit) found.3 in
        elim (cases_Bool (is_made found.0.outcome)) [
          | inl t ↦ sym (ap is_made outcome) ∙ t
          | inr f ↦ absurd (unlisted found.0 f listed found.2)
        ],
    λ _. refl,
  )
    where
      unlisted : (row : Row) → is_made row.outcome ≡ false → is_among keys row.path ≡ true → fails keys row ≡ false → ⊥
      unlisted row f listed h = let now = rw (f, listed) at h in cc

  pub exit-failed : list_any (fails keys) report.rows.items ≡ true → IsExit r limit request SomeFailed
  exit-failed some = (
    λ same. absurd (let no : SomeFailed ≡ Good = same in cc),
    λ all.
        let found = any-found IsTrueRow (fails keys) report.rows.items is.outcomes some in
        absurd (bad found.0 found.1.0 (found.2) all),
  )
    where
      bad : (row : Row) → row.outcome ≡ final_outcome r limit row.path → fails keys row ≡ true → AllAreMade r limit request → ⊥
      bad row outcome h all = elim (cases_Bool (is_made row.outcome)) [
        | inl t ↦ (let now = rw t at h in cc)
        | inr f ↦
            let listed : is_among keys row.path ≡ true = rw f at h in
            elim (with_new-cases [] request row.path (among-told keys row.path listed)) [
              | inl none ↦ absurd none
              | inr m ↦ both_ways _ f (ap is_made outcome ∙ all row.path m)
            ]
      ]
