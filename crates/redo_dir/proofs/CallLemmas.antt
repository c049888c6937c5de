-- The calls of the system, and what they come to.
use Rattle.std.proofs.Common.{◌≡◌, ◌∙◌, inl, inr, ℕ, Bool, true, false, List, [], ◌∷◌, ◌++◌, Option, ap, append_assoc, append-nil, Result, Ok, Err, rules, refl, subst, sym}
use Rattle.std.proofs.Math.Logic.{∥∥₁_elim, ∥∥₁_prop}
use Rattle.std.specs.Prelude.{IsOk, OnErr, OnOk, if◌then◌else◌, is_ok}
use Rattle.std.proofs.lemmas.List.{map-append}
use Rattle.std.specs.Path.{path_join}
use Rattle.std.specs.declared.io.ErrorKind.{ErrorKind}
use Rattle.redo_which.specs.Candidates.{journal_path}
use Rattle.redo_dir.specs.Stored.{Step, step_of, steps_of}
use Rattle.redo_dir.specs.declared.changes.Change.{Change}
use Rattle.redo_dir.specs.Called.{AreParts, Call, Does, Follows, Found, HasDone, IsPart, IsReady, Keeps, Part, Stays, Stood, Syncs, Unlinks, calls_in, is_waited_for, steps_in}

calls_in-append : (ps qs : List Part) → calls_in (ps ++ qs) ≡ calls_in ps ++ calls_in qs
calls_in-append [] qs = refl
calls_in-append (p ∷ ps) qs = ap (λ xs. p.0 ++ xs) (calls_in-append ps qs) ∙ sym (append_assoc p.0 (calls_in ps) (calls_in qs))

steps_in-append : (ps qs : List Part) → steps_in (ps ++ qs) ≡ steps_in ps ++ steps_in qs
steps_in-append [] qs = refl
steps_in-append (p ∷ ps) qs = ap (λ xs. p.1 ++ xs) (steps_in-append ps qs) ∙ sym (append_assoc p.1 (steps_in ps) (steps_in qs))

-- parts, and others behind them
parts-append : (stood : Stood) (top : List ℕ) (waits : Bool) (before : List Step) (ps qs : List Part) → AreParts stood top waits before ps → AreParts stood top waits (before ++ steps_in ps) qs → AreParts stood top waits before (ps ++ qs)
parts-append stood top waits before [] qs first next = subst (λ b. AreParts stood top waits b qs) (append-nil before) next
parts-append stood top waits before (p ∷ ps) qs first next =
    (first.0, parts-append stood top waits (before ++ p.1) ps qs first.1 (subst (λ b. AreParts stood top waits b qs) (sym (append_assoc before p.1 (steps_in ps))) next))

-- a log that comes to steps, and calls that are one part more
does_more : (stood : Stood) (top : List ℕ) (waits : Bool) (log calls : List Call) (steps more : List Step) → Does stood top waits log steps → IsPart stood top waits steps calls more → Does stood top waits (log ++ calls) (steps ++ more)
does_more stood top waits log calls steps more d part = record {
  parts = d.parts ++ (calls, more) ∷ [];
  calls = calls_in-append d.parts ((calls, more) ∷ []) ∙ ap (λ xs. xs ++ (calls ++ [])) d.calls ∙ ap (λ xs. log ++ xs) (append-nil calls);
  done = steps_in-append d.parts ((calls, more) ∷ []) ∙ ap (λ xs. xs ++ (more ++ [])) d.done ∙ ap (λ xs. steps ++ xs) (append-nil more);
  each = parts-append stood top waits [] d.parts ((calls, more) ∷ []) d.each (subst (λ b. IsPart stood top waits b calls more) (sym d.done) part, tt);
}

-- what was looked at before closed files took their places
abbrev pub seen_by : {F : Type 0} → (F → List ℕ → Found → Type 0) → Stood
seen_by {F} stood place found = (file : F) × stood file place found

-- a file that was ready for its place, as all files tell
pub ready_by : {F : Type 0} (stood : F → List ℕ → Found → Type 0) (file : F) (place to : List ℕ) (mode : Option ℕ) → IsReady (stood file) place mode → place ≡ to → IsReady (seen_by stood) to mode
ready_by stood file place to mode (found, s, m) at = subst (λ p. IsReady (seen_by stood) p mode) at (found, (file, s), m)

-- the same steps, told otherwise
pub told_same : {C F : Type 0} (after : C → List Call → Type 0) (stood : F → List ℕ → Found → Type 0) (top : List ℕ) (waits : Bool) (now : C) (steps same : List Step) → HasDone after stood top waits now steps → same ≡ steps → HasDone after stood top waits now same
told_same after stood top waits now steps same h e = subst (HasDone after stood top waits now) (sym e) h

-- no call was answered well
pub told_kept : {C F : Type 0} (after : C → List Call → Type 0) (stood : F → List ℕ → Found → Type 0) (top : List ℕ) (waits : Bool) (old new : C) (steps same : List Step) → HasDone after stood top waits old steps → Keeps after old new → same ≡ steps → HasDone after stood top waits new same
told_kept after stood top waits old new steps same h k e =
    subst (HasDone after stood top waits new) (sym e) (∥∥₁_elim h ∥∥₁_prop
    (λ (w : (log : List Call) × after old log × Does (seen_by stood) top waits log steps). ∣ (w.0, k w.0 w.1, w.2) ∣₁))

-- calls were answered that are one part
pub told_more : {C F : Type 0} (after : C → List Call → Type 0) (stood : F → List ℕ → Found → Type 0) (top : List ℕ) (waits : Bool) (old new : C) (calls : List Call) (steps more all : List Step) → HasDone after stood top waits old steps → Follows after old calls new → IsPart (seen_by stood) top waits steps calls more → all ≡ steps ++ more → HasDone after stood top waits new all
told_more after stood top waits old new calls steps more all h f part e =
    subst (HasDone after stood top waits new) (sym e) (∥∥₁_elim h ∥∥₁_prop
    (λ (w : (log : List Call) × after old log × Does (seen_by stood) top waits log steps).
    ∣ (w.0 ++ calls, f w.0 w.1, does_more (seen_by stood) top waits w.0 calls steps more w.2 part) ∣₁))

-- and where they come to no step
pub told_idle : {C F : Type 0} (after : C → List Call → Type 0) (stood : F → List ℕ → Found → Type 0) (top : List ℕ) (waits : Bool) (old new : C) (calls : List Call) (steps same : List Step) → HasDone after stood top waits old steps → Follows after old calls new → IsPart (seen_by stood) top waits steps calls [] → same ≡ steps → HasDone after stood top waits new same
told_idle after stood top waits old new calls steps same h f part e = told_more after stood top waits old new calls steps [] same h f part (e ∙ sym (append-nil steps))

-- calls behind calls
pub follows_both : {C : Type 0} (after : C → List Call → Type 0) (old mid new : C) (first next : List Call) → Follows after old first mid → Follows after mid next new → Follows after old (first ++ next) new
follows_both after old mid new first next f n log h = subst (after new) (append_assoc log first next) (n (log ++ first) (f log h))

-- and then none that was answered well
pub follows_kept : {C : Type 0} (after : C → List Call → Type 0) (old mid new : C) (first : List Call) → Follows after old first mid → Keeps after mid new → Follows after old first new
follows_kept after old mid new first f k log h = k (log ++ first) (f log h)

-- a change that was pushed where there was room
pub noted : {E : Type 0} (r : Result (Unit {0}) E) (old new : List Change) (change : Change) → new ≡ (if is_ok r then old ++ change ∷ [] else old) → IsOk r → steps_of new ≡ steps_of old ++ step_of change ∷ []
noted (Ok x) old new change e ok = ap steps_of e ∙ map-append step_of old (change ∷ [])
noted (Err x) old new change e ok = search rules

-- a journal that isn't one, since its name can't be waited for
pub told_undone : {C F E : Type 0} (after : C → List Call → Type 0) (stood : F → List ℕ → Found → Type 0) (top : List ℕ) (waits : Bool) (old mid late new : C) (text : List ℕ) (mode : Option ℕ) (answer : Option ErrorKind) (steps : List Step) (r : Result (Unit {0}) E) → HasDone after stood top waits old steps → Follows after old (Stays (path_join top journal_path) text true mode ∷ []) mid → Follows after mid (Syncs (path_join top []) answer ∷ []) late → is_waited_for answer ≡ false → OnOk r (Follows after late (Unlinks (path_join top journal_path) ∷ []) new) → OnErr r (Keeps after late new) → HasDone after stood top waits new steps
told_undone after stood top waits old mid late new text mode answer steps (Ok x) h f s w gone kept =
    let stays = Stays (path_join top journal_path) text true mode in
    let syncs = Syncs (path_join top []) answer in
    let unlinks = Unlinks (path_join top journal_path) in
    told_idle after stood top waits old new (stays ∷ syncs ∷ unlinks ∷ []) steps steps h
    (follows_both after old late new (stays ∷ syncs ∷ []) (unlinks ∷ []) (follows_both after old mid late (stays ∷ []) (syncs ∷ []) f s) gone)
    (inr (text, mode, answer, unlinks ∷ [], w, inr refl, refl)) refl
told_undone after stood top waits old mid late new text mode answer steps (Err x) h f s w gone kept =
    let stays = Stays (path_join top journal_path) text true mode in
    let syncs = Syncs (path_join top []) answer in
    told_idle after stood top waits old new (stays ∷ syncs ∷ []) steps steps h
    (follows_kept after old late new (stays ∷ syncs ∷ []) (follows_both after old mid late (stays ∷ []) (syncs ∷ []) f s) kept)
    (inr (text, mode, answer, [], w, inl refl, refl)) refl
