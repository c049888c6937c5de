-- Lemmas on lists of entries.
use Rattle.std.proofs.Common.{◌≡◌, ℕ, suc, ◌+◌, ◌<◌, ◌≤◌, true, false, cond, ◌⊎◌, inl, inr, List, [], ◌∷◌, ◌++◌, length}
use Rattle.std.proofs.Common.{Some, None, is_some, refl, sym, ap, subst, ◌∙◌, arith, bytes_eq, length-append}
use Rattle.std.proofs.lemmas.Bool.{cases_Bool, both_ways, false_from_ne_true}
use Rattle.std.proofs.lemmas.Slice.Eq.{bytes_eq-Decides}
use Rattle.redo_record.specs.Paths.{is_among, with_new, IsAmong}
use Rattle.redo_record.specs.declared.outcome.Outcome.{Outcome}
use Rattle.redo_build.specs.Rules.{Rules}
use Rattle.redo_build.specs.Schedule.{Entry, Phase, paths_of, entry_of, outcome_of, outcomes_of, new_entry, entered}
use Rattle.redo_build.specs.Schedule.{put}
use Rattle.redo_build.specs.Schedule.Phase.{Check, Script}
use Rattle.redo_build.specs.inside.Standing.{decided_count}
use Rattle.redo_build.proofs.DepthLemmas.{cases_Option}

pub phase_cases : (phase : Phase) → (phase ≡ Check) ⊎ (phase ≡ Script)
phase_cases Check = inl refl
phase_cases Script = inr refl

pub new-inside : (r : Rules) (p : List ℕ) → (new_entry r p).is_out ≡ false
new-inside r p = elim (cases_Bool (r.has_rule p)) [ inl t ↦ rw t refl | inr f ↦ rw f refl ]

pub nowhere : (e : Entry) → None ≡ Some e → ⊥
nowhere e h = cc

pub entry_of-path : (es : List Entry) (p : List ℕ) (e : Entry) → entry_of es p ≡ Some e → e.path ≡ p
entry_of-path [] p e h = cc
entry_of-path (x ∷ es) p e h = elim (cases_Bool (bytes_eq x.path p)) [
  | inl t ↦
      let same : x ≡ e = let now = rw t at h in cc in
      sym (ap (λ (y : Entry). y.path) same) ∙ (bytes_eq-Decides x.path p).0 t
  | inr f ↦ entry_of-path es p e (rw f at h)
]

pub entry_of-among : (es : List Entry) (p : List ℕ) (e : Entry) → entry_of es p ≡ Some e → IsAmong (paths_of es) p
entry_of-among [] p e h = cc
entry_of-among (x ∷ es) p e h = elim (cases_Bool (bytes_eq x.path p)) [
  | inl t ↦ inl ((bytes_eq-Decides x.path p).0 t)
  | inr f ↦ inr (entry_of-among es p e (rw f at h))
]

pub among-entry_of : (es : List Entry) (p : List ℕ) → IsAmong (paths_of es) p → (e : Entry) × (entry_of es p ≡ Some e)
among-entry_of [] p m = absurd m
among-entry_of (x ∷ es) p m = elim (cases_Bool (bytes_eq x.path p)) [
  | inl t ↦ (x, rw t refl)
  | inr f ↦ elim m [
    | inl here ↦ absurd (both_ways _ f ((bytes_eq-Decides x.path p).1 here))
    | inr later ↦ let found = among-entry_of es p later in (found.0, rw f found.1)
  ]
]

-- a decided path has an entry
pub outcomes_of-entry : (es : List Entry) (p : List ℕ) (o : Outcome) → outcomes_of es p ≡ Some o →
    (e : Entry) × (entry_of es p ≡ Some e) × (e.outcome ≡ Some o)
outcomes_of-entry es p o h = elim (cases_Option (entry_of es p)) [
  | inl none ↦ absurd (let now = rw none at h in cc)
  | inr some ↦ (some.0, some.1, rw some.1 at h)
]

pub outcomes_of-at : (es : List Entry) (p : List ℕ) (e : Entry) → entry_of es p ≡ Some e → outcomes_of es p ≡ e.outcome
outcomes_of-at es p e h = ap outcome_of h

pub paths_of-put : (es : List Entry) (e : Entry) → paths_of (put es e) ≡ paths_of es
paths_of-put [] e = refl
paths_of-put (x ∷ es) e = elim (cases_Bool (bytes_eq x.path e.path)) [
  | inl t ↦ rw t (ap (λ q. q ∷ paths_of es) (sym ((bytes_eq-Decides x.path e.path).0 t)))
  | inr f ↦ rw f (ap (λ ps. x.path ∷ ps) (paths_of-put es e))
]

pub length-paths : (es : List Entry) → length (paths_of es) ≡ length es
length-paths [] = refl
length-paths (e ∷ es) = ap suc (length-paths es)

pub length-put : (es : List Entry) (e : Entry) → length (put es e) ≡ length es
length-put es e = sym (length-paths (put es e)) ∙ ap length (paths_of-put es e) ∙ length-paths es

pub entry_of-put_same : (es : List Entry) (e : Entry) → IsAmong (paths_of es) e.path → entry_of (put es e) e.path ≡ Some e
entry_of-put_same [] e m = absurd m
entry_of-put_same (x ∷ es) e m = elim (cases_Bool (bytes_eq x.path e.path)) [
  | inl t ↦ rw t (let same : bytes_eq e.path e.path ≡ true = (bytes_eq-Decides e.path e.path).1 refl in rw same refl)
  | inr f ↦ elim m [
    | inl here ↦ absurd (both_ways _ f ((bytes_eq-Decides x.path e.path).1 here))
    | inr later ↦ rw f (rw f (entry_of-put_same es e later))
  ]
]

pub entry_of-put_other : (es : List Entry) (e : Entry) (p : List ℕ) → (e.path ≡ p → ⊥) → entry_of (put es e) p ≡ entry_of es p
entry_of-put_other [] e p other = refl
entry_of-put_other (x ∷ es) e p other = elim (cases_Bool (bytes_eq x.path e.path)) [
  | inl t ↦
      let no_new : bytes_eq e.path p ≡ false = not_same e.path p other in
      let no_old : bytes_eq x.path p ≡ false = not_same x.path p (λ h. other (sym ((bytes_eq-Decides x.path e.path).0 t) ∙ h)) in
      rw (t, no_new, no_old) refl
  | inr f ↦ rw f (elim (cases_Bool (bytes_eq x.path p)) [
    | inl s ↦ rw s refl
    | inr s ↦ rw s (entry_of-put_other es e p other)
  ])
]
  where
    not_same : (a b : List ℕ) → (a ≡ b → ⊥) → bytes_eq a b ≡ false
    not_same a b h = false_from_ne_true _ (λ t. h ((bytes_eq-Decides a b).0 t))

-- an entry is put where another one stood
module _ (es : List Entry) (new old : Entry) (at : entry_of es new.path ≡ Some old) where
  pub put-new : entry_of (put es new) new.path ≡ Some new
  put-new = entry_of-put_same es new (entry_of-among es new.path old at)

  -- what stood somewhere is that one, or stays
  pub put-from : (p : List ℕ) (x : Entry) → entry_of es p ≡ Some x →
      ((x ≡ old) × (new.path ≡ p) × (entry_of (put es new) p ≡ Some new)) ⊎
      ((new.path ≡ p → ⊥) × (entry_of (put es new) p ≡ Some x))
  put-from p x h = elim (cases_Bool (bytes_eq new.path p)) [
    | inl t ↦
        let same = (bytes_eq-Decides new.path p).0 t in
        let P : List ℕ → Type 0 = λ q. (entry_of es q ≡ Some old) × (entry_of (put es new) q ≡ Some new) in
        let here = subst P same (at, put-new) in
        let is : x ≡ old = let both : Some x ≡ Some old = sym h ∙ here.0 in cc in
        inl (is, same, here.1)
    | inr f ↦
        let other : new.path ≡ p → ⊥ = λ same. both_ways _ f ((bytes_eq-Decides new.path p).1 same) in
        inr (other, entry_of-put_other es new p other ∙ h)
  ]

  -- what stands somewhere then is the new one, or stood there
  pub put-cases : (p : List ℕ) (x : Entry) → entry_of (put es new) p ≡ Some x →
      ((new.path ≡ p) × (x ≡ new)) ⊎ ((new.path ≡ p → ⊥) × (entry_of es p ≡ Some x))
  put-cases p x h = elim (cases_Bool (bytes_eq new.path p)) [
    | inl t ↦
        let same = (bytes_eq-Decides new.path p).0 t in
        let P : List ℕ → Type 0 = λ q. entry_of (put es new) q ≡ Some new in
        let is : x ≡ new = let both : Some x ≡ Some new = sym h ∙ subst P same put-new in cc in
        inl (same, is)
    | inr f ↦
        let other : new.path ≡ p → ⊥ = λ same. both_ways _ f ((bytes_eq-Decides new.path p).1 same) in
        inr (other, sym (entry_of-put_other es new p other) ∙ h)
  ]

pub decided_count-length : (es : List Entry) → decided_count es ≤ length (paths_of es)
decided_count-length [] = omega arith
decided_count-length (e ∷ es) = elim (cases_Bool (is_some e.outcome)) [
  | inl t ↦ rw t (omega (arith, decided_count-length es))
  | inr f ↦ rw f (omega (arith, decided_count-length es))
]

pub decided_count-some : (es : List Entry) (p : List ℕ) (e : Entry) (o : Outcome) → entry_of es p ≡ Some e → e.outcome ≡ Some o →
    0 < decided_count es
decided_count-some [] p e o h done = cc
decided_count-some (x ∷ es) p e o h done = elim (cases_Bool (bytes_eq x.path p)) [
  | inl t ↦
      let same : x ≡ e = let now = rw t at h in cc in
      rw (ap (λ (y : Entry). y.outcome) same, done) (omega arith)
  | inr f ↦
      let rest = decided_count-some es p e o (rw f at h) done in
      elim (cases_Bool (is_some x.outcome)) [ inl s ↦ rw s (omega (arith, rest)) | inr s ↦ rw s (omega (arith, rest)) ]
]

-- replacing an entry that isn't decided
pub decided_count-put : (es : List Entry) (e old : Entry) → entry_of es e.path ≡ Some old → old.outcome ≡ None →
    decided_count (put es e) ≡ (cond (is_some e.outcome) 1 0) + decided_count es
decided_count-put [] e old h open' = cc
decided_count-put (x ∷ es) e old h open' = elim (cases_Bool (bytes_eq x.path e.path)) [
  | inl t ↦
      let same : x ≡ old = let now = rw t at h in cc in
      rw t (rw (ap (λ (y : Entry). y.outcome) same, open') (omega arith))
  | inr f ↦ rw f (omega (arith, decided_count-put es e old (rw f at h) open'))
]

pub paths_of-push : (es : List Entry) (e : Entry) → paths_of (es ++ e ∷ []) ≡ paths_of es ++ e.path ∷ []
paths_of-push [] e = refl
paths_of-push (x ∷ es) e = ap (λ ps. x.path ∷ ps) (paths_of-push es e)

module _ (r : Rules) where
  pub new_entry-path : (p : List ℕ) → (new_entry r p).path ≡ p
  new_entry-path p = elim (cases_Bool (r.has_rule p)) [ inl t ↦ rw t refl | inr f ↦ rw f refl ]

  entry_of-push_old : (es : List Entry) (x e : Entry) (p : List ℕ) → entry_of es p ≡ Some e → entry_of (es ++ x ∷ []) p ≡ Some e
  entry_of-push_old [] x e p h = cc
  entry_of-push_old (y ∷ es) x e p h = elim (cases_Bool (bytes_eq y.path p)) [
    | inl t ↦ rw t (rw t at h)
    | inr f ↦ rw f (entry_of-push_old es x e p (rw f at h))
  ]

  entry_of-push_cases : (es : List Entry) (x e : Entry) (p : List ℕ) → entry_of (es ++ x ∷ []) p ≡ Some e →
      (entry_of es p ≡ Some e) ⊎ ((entry_of es p ≡ None) × (x ≡ e) × (x.path ≡ p))
  entry_of-push_cases [] x e p h = elim (cases_Bool (bytes_eq x.path p)) [
    | inl t ↦ inr (refl, (let now = rw t at h in cc), (bytes_eq-Decides x.path p).0 t)
    | inr f ↦ absurd (let now = rw f at h in cc)
  ]
  entry_of-push_cases (y ∷ es) x e p h = elim (cases_Bool (bytes_eq y.path p)) [
    | inl t ↦ inl (rw t (rw t at h))
    | inr f ↦ elim (entry_of-push_cases es x e p (rw f at h)) [
      | inl old ↦ inl (rw f old)
      | inr new ↦ inr ((rw f new.0), new.1, new.2)
    ]
  ]

  decided_count-push : (es : List Entry) (x : Entry) → decided_count es ≤ decided_count (es ++ x ∷ [])
  decided_count-push [] x = omega arith
  decided_count-push (y ∷ es) x = omega (arith, decided_count-push es x)

  pub paths_of-entered : (es : List Entry) (ps : List (List ℕ)) → paths_of (entered r es ps) ≡ with_new (paths_of es) ps
  paths_of-entered es [] = refl
  paths_of-entered es (p ∷ ps) = elim (cases_Bool (is_among (paths_of es) p)) [
    | inl t ↦ rw t (paths_of-entered es ps)
    | inr f ↦ rw f (paths_of-entered (es ++ new_entry r p ∷ []) ps ∙
        ap (λ x. with_new x ps) (paths_of-push es (new_entry r p) ∙ ap (λ q. paths_of es ++ q ∷ []) (new_entry-path p)))
  ]

  pub entry_of-entered_old : (es : List Entry) (ps : List (List ℕ)) (p : List ℕ) (e : Entry) →
      entry_of es p ≡ Some e → entry_of (entered r es ps) p ≡ Some e
  entry_of-entered_old es [] p e h = h
  entry_of-entered_old es (q ∷ ps) p e h = elim (cases_Bool (is_among (paths_of es) q)) [
    | inl t ↦ rw t (entry_of-entered_old es ps p e h)
    | inr f ↦ rw f (entry_of-entered_old (es ++ new_entry r q ∷ []) ps p e (entry_of-push_old es (new_entry r q) e p h))
  ]

  pub entry_of-entered_cases : (es : List Entry) (ps : List (List ℕ)) (p : List ℕ) (e : Entry) →
      entry_of (entered r es ps) p ≡ Some e →
      (entry_of es p ≡ Some e) ⊎ ((entry_of es p ≡ None) × (e ≡ new_entry r p) × IsAmong ps p)
  entry_of-entered_cases es [] p e h = inl h
  entry_of-entered_cases es (q ∷ ps) p e h = elim (cases_Bool (is_among (paths_of es) q)) [
    | inl t ↦ elim (entry_of-entered_cases es ps p e (rw t at h)) [
      | inl old ↦ inl old
      | inr new ↦ inr (new.0, new.1, inr new.2)
    ]
    | inr f ↦ elim (entry_of-entered_cases (es ++ new_entry r q ∷ []) ps p e (rw f at h)) [
      | inl old ↦ elim (entry_of-push_cases es (new_entry r q) e p old) [
        | inl older ↦ inl older
        | inr new ↦
            let is : q ≡ p = sym (new_entry-path q) ∙ new.2 in
            inr (new.0, sym new.1 ∙ ap (new_entry r) is, inl is)
      ]
      | inr new ↦ inr (push_none es (new_entry r q) p new.0, new.1, inr new.2)
    ]
  ]
    where
      push_none : (xs : List Entry) (x : Entry) (y : List ℕ) → entry_of (xs ++ x ∷ []) y ≡ None → entry_of xs y ≡ None
      push_none xs x y none = elim (cases_Option (entry_of xs y)) [
        | inl n ↦ n
        | inr some ↦ absurd (let there = entry_of-push_old xs x some.0 y some.1 in cc)
      ]

  pub decided_count-entered : (es : List Entry) (ps : List (List ℕ)) → decided_count es ≤ decided_count (entered r es ps)
  decided_count-entered es [] = omega arith
  decided_count-entered es (q ∷ ps) = elim (cases_Bool (is_among (paths_of es) q)) [
    | inl t ↦ rw t (decided_count-entered es ps)
    | inr f ↦ rw f (omega (arith, decided_count-push es (new_entry r q), decided_count-entered (es ++ new_entry r q ∷ []) ps))
  ]

-- the same, once paths were entered
module _ (r : Rules) (es : List Entry) (more : List (List ℕ)) (new old : Entry) (at : entry_of es new.path ≡ Some old) where
  pub wider-at : entry_of (entered r es more) new.path ≡ Some old
  wider-at = entry_of-entered_old r es more new.path old at

  pub replaced-from : (p : List ℕ) (x : Entry) → entry_of es p ≡ Some x →
      ((x ≡ old) × (new.path ≡ p) × (entry_of (put (entered r es more) new) p ≡ Some new)) ⊎
      ((new.path ≡ p → ⊥) × (entry_of (put (entered r es more) new) p ≡ Some x))
  replaced-from p x h = put-from (entered r es more) new old wider-at p x (entry_of-entered_old r es more p x h)

  pub replaced-cases : (p : List ℕ) (x : Entry) → entry_of (put (entered r es more) new) p ≡ Some x →
      ((new.path ≡ p) × (x ≡ new)) ⊎ ((new.path ≡ p → ⊥) × ((entry_of es p ≡ Some x) ⊎ (x ≡ new_entry r p)))
  replaced-cases p x h = elim (put-cases (entered r es more) new old wider-at p x h) [
    | inl here ↦ inl here
    | inr other ↦ inr (
      other.0,
      elim (entry_of-entered_cases r es more p x other.1) [
        | inl was ↦ inl was
        | inr fresh ↦ inr fresh.1
      ],
    )
  ]

pub entered-longer : (r : Rules) (es : List Entry) (ps : List (List ℕ)) → length es ≤ length (entered r es ps)
entered-longer r es [] = omega arith
entered-longer r es (p ∷ ps) = elim (cases_Bool (is_among (paths_of es) p)) [
  | inl t ↦ rw t (entered-longer r es ps)
  | inr f ↦ rw f (omega (arith, entered-longer r (es ++ new_entry r p ∷ []) ps, length-append es (new_entry r p ∷ [])))
]
