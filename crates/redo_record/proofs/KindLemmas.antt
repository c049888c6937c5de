-- Entries are looked up among the paths of their kind.
use Rattle.std.proofs.Common.{◌≡◌, ◌&&◌, ◌||◌, ◌++◌, ◌∷◌, Bool, true, false, cond, not, List, [], refl, sym, ap, ◌∙◌}
use Rattle.std.proofs.lemmas.List.{append-nil}
use Rattle.std.specs.Prelude.{bytes_eq}
use Rattle.redo_names.specs.Paths.{with_path}
use Rattle.redo_record.specs.declared.deps.Dep.{Dep}
use Rattle.redo_record.specs.declared.deps.DepKind.{DepKind}
use Rattle.redo_record.specs.declared.deps.DepKind.TheVariants as kinds
use Rattle.redo_record.specs.Entries.{same_kind, is_entered, with_entry}
use Rattle.redo_record.specs.Paths.{Path, is_among}
use Rattle.redo_record.specs.inside.Kinds.{paths_with}
use Rattle.redo_record.proofs.SearchLemmas.{same_way}

among-step : (b : Bool) (q p : Path) (rest : List Path) (x : Bool) → x ≡ is_among rest p → ((b && bytes_eq p q) || x) ≡ is_among (cond b (q ∷ rest) rest) p
among-step true q p rest x h = λ i. same_way p q i || h i
among-step false q p rest x h = h

pub entered-among : (es : List Dep) (k : DepKind) (p : Path) → is_entered es k p ≡ is_among (paths_with k es) p
entered-among [] k p = refl
entered-among (e ∷ es) k p = among-step (same_kind k e.kind) e.path p (paths_with k es) (is_entered es k p) (entered-among es k p)

last-step : (b c : Bool) (q p : Path) (rest : List Path) → cond b (q ∷ (rest ++ cond c (p ∷ []) [])) (rest ++ cond c (p ∷ []) []) ≡ cond b (q ∷ rest) rest ++ cond c (p ∷ []) []
last-step true c q p rest = refl
last-step false c q p rest = refl

-- the paths of a kind, with one more entry behind the others
pub paths-last : (k : DepKind) (es : List Dep) (d : Dep) → paths_with k (es ++ d ∷ []) ≡ paths_with k es ++ cond (same_kind k d.kind) (d.path ∷ []) []
paths-last k [] d = refl
paths-last k (e ∷ es) d = ap (λ ps. cond (same_kind k e.kind) (e.path ∷ ps) ps) (paths-last k es d) ∙ last-step (same_kind k e.kind) (same_kind k d.kind) e.path d.path (paths_with k es)

-- ---- an entry that is put in

denied : (b new : Bool) → new ≡ not b → new ≡ true → b ≡ false
denied true new told is = sym is ∙ told
denied false new told is = refl

affirmed : (b new : Bool) → new ≡ not b → new ≡ false → b ≡ true
affirmed true new told is = refl
affirmed false new told is = sym is ∙ told

same_kind-itself : (k j : DepKind) → k ≡ j → same_kind j k ≡ true
same_kind-itself kinds.Change kinds.Change e = refl
same_kind-itself kinds.Change kinds.Create e = cc
same_kind-itself kinds.Change kinds.Always e = cc
same_kind-itself kinds.Create kinds.Change e = cc
same_kind-itself kinds.Create kinds.Create e = refl
same_kind-itself kinds.Create kinds.Always e = cc
same_kind-itself kinds.Always kinds.Change e = cc
same_kind-itself kinds.Always kinds.Create e = cc
same_kind-itself kinds.Always kinds.Always e = refl

module _ (es : List Dep) (d : Dep) (k : DepKind) (set grown : List Path) (p : Path) (new : Bool) (kept : set ≡ paths_with k es) (kind : d.kind ≡ k) (path : p ≡ d.path) (put : grown ≡ with_path set p) (told : new ≡ not (is_among set p)) where
  entered : is_entered es d.kind d.path ≡ is_among set p
  entered = entered-among es d.kind d.path ∙ (λ i. is_among (paths_with (kind i) es) (sym path i)) ∙ ap (λ ps. is_among ps p) (sym kept)

  pub new-entry : new ≡ true → with_entry es d.kind d.path ≡ es ++ d ∷ []
  new-entry is = ap (λ b. cond b es (es ++ d ∷ [])) (entered ∙ denied (is_among set p) new told is)

  pub old-entry : new ≡ false → with_entry es d.kind d.path ≡ es
  old-entry is = ap (λ b. cond b es (es ++ d ∷ [])) (entered ∙ affirmed (is_among set p) new told is)

  pub set-with : new ≡ true → grown ≡ paths_with k (es ++ d ∷ [])
  set-with is =
      put ∙ ap (λ b. cond b set (set ++ p ∷ [])) (denied (is_among set p) new told is)
      ∙ (λ i. kept i ++ path i ∷ [])
      ∙ sym (paths-last k es d ∙ ap (λ b. paths_with k es ++ cond b (d.path ∷ []) []) (same_kind-itself d.kind k kind))

  pub set-still : new ≡ false → grown ≡ paths_with k es
  set-still is = put ∙ ap (λ b. cond b set (set ++ p ∷ [])) (affirmed (is_among set p) new told is) ∙ kept

-- each other set stays
pub other-set : (es : List Dep) (d : Dep) (k : DepKind) (set : List Path) → set ≡ paths_with k es → same_kind k d.kind ≡ false → set ≡ paths_with k (es ++ d ∷ [])
other-set es d k set kept other =
    kept ∙ sym (paths-last k es d ∙ ap (λ b. paths_with k es ++ cond b (d.path ∷ []) []) other ∙ append-nil (paths_with k es))
