-- Directories whose names were waited for.
use Rattle.std.proofs.Common.{◌≡◌, ◌⊎◌, ◌∙◌, inl, inr, ℕ, Bool, true, List, [], ◌∷◌, ◌++◌, Option, Some, None, ap, append_assoc, map, refl, subst, sym}
use Rattle.std.proofs.Math.Logic.{∥∥₁_elim, ∥∥₁_prop}
use Rattle.std.proofs.lemmas.List.{map-append}
use Rattle.std.specs.List.{AllByRecursion}
use Rattle.std.specs.Prelude.{IfSome, OnOk, Result, Ok, Err}
use Rattle.std.specs.Path.{path_join}
use Rattle.std.specs.declared.io.ErrorKind.{ErrorKind}
use Rattle.redo_path.proofs.PartLemmas.{AllByRecursion-append}
use Rattle.redo_which.specs.Candidates.{book_path, journal_path}
use Rattle.redo_path.specs.Names.{parent_of}
use Rattle.redo_dir.specs.Stored.{Finishes, Removes, Step}
use Rattle.redo_dir.specs.Called.{AreOnDisk, Call, Does, Follows, Found, HasDone, HasSettled, IsAmong, IsCovered, IsIdle, IsSettling, IsWaited, Keeps, Renames, Syncs, Unlinks, Wait, call_of, dir_changed, is_waited_for}
use Rattle.redo_dir.proofs.CallLemmas.{follows_both, follows_kept, seen_by, told_idle, told_more}

-- waits come to no step
idle_waits : (waits : List Wait) → AllByRecursion IsIdle (map call_of waits)
idle_waits [] = tt
idle_waits ((place, answer) ∷ waits) = (tt, idle_waits waits)

-- one wait more, whatever its answer
pub wait_follows : {C : Type 0} (after : C → List Call → Type 0) (old mid new : C) (waits : List Wait) (place : List ℕ) (answer : Option ErrorKind) → Follows after old (map call_of waits) mid → Follows after mid (Syncs place answer ∷ []) new → Follows after old (map call_of (waits ++ (place, answer) ∷ [])) new
wait_follows after old mid new waits place answer first next =
    subst (λ calls. Follows after old calls new) (sym (map-append call_of waits ((place, answer) ∷ [])))
    (follows_both after old mid new (map call_of waits) (Syncs place answer ∷ []) first next)

-- and one that was answered well
pub wait_reaches : (places : List (List ℕ)) (waits : List Wait) (place : List ℕ) (answer : Option ErrorKind) → AreOnDisk places waits → is_waited_for answer ≡ true → AreOnDisk (places ++ place ∷ []) (waits ++ (place, answer) ∷ [])
wait_reaches places waits place answer on well = record {
  asked = map-append (λ w. w.0) waits ((place, answer) ∷ []) ∙ ap (λ ps. ps ++ place ∷ []) on.asked;
  each = AllByRecursion-append (λ w. is_waited_for w.1 ≡ true) waits ((place, answer) ∷ []) on.each (well, tt);
}

-- directories were waited for, and no more
pub told_waits : {C F : Type 0} (after : C → List Call → Type 0) (stood : F → List ℕ → Found → Type 0) (top : List ℕ) (waits : Bool) (old mid new : C) (waited : List Wait) (steps same : List Step) → HasDone after stood top waits old steps → Follows after old (map call_of waited) mid → Keeps after mid new → same ≡ steps → HasDone after stood top waits new same
told_waits after stood top waits old mid new waited steps same h f k e =
    told_idle after stood top waits old new (map call_of waited) steps same h (follows_kept after old mid new (map call_of waited) f k) (inl (idle_waits waited)) e

-- and then the journal became the book
pub told_finish : {C F : Type 0} (after : C → List Call → Type 0) (stood : F → List ℕ → Found → Type 0) (top : List ℕ) (waits : Bool) (old mid new : C) (places : List (List ℕ)) (waited : List Wait) (steps all : List Step) → HasDone after stood top waits old steps → Follows after old (map call_of waited) mid → AreOnDisk places waited → (waits ≡ true → AllByRecursion (IsCovered top places) steps) → Follows after mid (Renames (path_join top journal_path) (path_join top book_path) ∷ []) new → all ≡ steps ++ Finishes ∷ [] → HasDone after stood top waits new all
told_finish after stood top waits old mid new places waited steps all h f on covers r e =
    let renames = Renames (path_join top journal_path) (path_join top book_path) ∷ [] in
    told_more after stood top waits old new (map call_of waited ++ renames) steps (Finishes ∷ []) all h
    (follows_both after old mid new (map call_of waited) renames f r) (places, waited, on, covers, refl) e

-- and then the journal or the book was removed
pub told_removal : {C F : Type 0} (after : C → List Call → Type 0) (stood : F → List ℕ → Found → Type 0) (top : List ℕ) (waits : Bool) (old mid new : C) (places : List (List ℕ)) (waited : List Wait) (path : List ℕ) (steps all : List Step) → HasDone after stood top waits old steps → Follows after old (map call_of waited) mid → AreOnDisk places waited → (path ≡ journal_path) ⊎ (path ≡ book_path) → IsAmong places (path_join top []) → (waits ≡ true → AllByRecursion (IsCovered top places) steps) → Follows after mid (Unlinks (path_join top path) ∷ []) new → all ≡ steps ++ Removes path ∷ [] → HasDone after stood top waits new all
told_removal after stood top waits old mid new places waited path steps all h f on is at covers r e =
    let unlinks = Unlinks (path_join top path) ∷ [] in
    told_more after stood top waits old new (map call_of waited ++ unlinks) steps (Removes path ∷ []) all h
    (follows_both after old mid new (map call_of waited) unlinks f r) (inr (places, waited, on, is, at, covers, refl)) e

-- a place that was waited for, as the log tells then
waited_at : (waited : List Wait) (log : List Call) (place : List ℕ) → IsAmong (map (λ w. w.0) waited) place → AllByRecursion (λ w. is_waited_for w.1 ≡ true) waited → IsWaited (log ++ map call_of waited) place
waited_at [] log place h all = absurd h
waited_at ((p, answer) ∷ ws) log place (inl same) all = (log, map call_of ws, answer, all.0, ap (λ q. log ++ (Syncs q answer ∷ map call_of ws)) same)
waited_at ((p, answer) ∷ ws) log place (inr later) all =
    subst (λ l. IsWaited l place) (append_assoc log (Syncs p answer ∷ []) (map call_of ws)) (waited_at ws (log ++ Syncs p answer ∷ []) place later all.1)

waited_among : (places : List (List ℕ)) (waited : List Wait) (log : List Call) (place : List ℕ) → AreOnDisk places waited → IsAmong places place → IsWaited (log ++ map call_of waited) place
waited_among places waited log place on h = waited_at waited log place (subst (λ ps. IsAmong ps place) (sym on.asked) h) on.each

waited_dir : (places : List (List ℕ)) (waited : List Wait) (log : List Call) (top : List ℕ) (dir : Option (List ℕ)) → AreOnDisk places waited → IfSome dir (λ d. IsAmong places (path_join top d)) → IfSome dir (λ d. IsWaited (log ++ map call_of waited) (path_join top d))
waited_dir places waited log top None on h = tt
waited_dir places waited log top (Some dir) on h = waited_among places waited log (path_join top dir) on h

-- files whose places, and whose directories', were waited for
pub has_settled : {C F : Type 0} (after : C → List Call → Type 0) (stood : F → List ℕ → Found → Type 0) (top : List ℕ) (waits : Bool) (old new : C) (places : List (List ℕ)) (waited : List Wait) (steps : List Step) (path : List ℕ) → HasDone after stood top waits old steps → Follows after old (map call_of waited) new → AreOnDisk places waited → IsSettling top places path → HasSettled after top new path
has_settled after stood top waits old new places waited steps path h f on is =
    ∥∥₁_elim h ∥∥₁_prop (λ (w : (log : List Call) × after old log × Does (seen_by stood) top waits log steps).
    ∣ (w.0 ++ map call_of waited, f w.0 w.1, waited_among places waited w.0 (path_join top path) on is.0, waited_dir places waited w.0 top (parent_of path) on is.1) ∣₁)

-- where all were waited for they have settled
pub on_settled : {C E : Type 0} (after : C → List Call → Type 0) (top : List ℕ) (new : C) (places : List (List ℕ)) (waited : List Wait) (r : Result (Unit {0}) E) → ((path : List ℕ) → AreOnDisk places waited → IsSettling top places path → HasSettled after top new path) → OnOk r (AreOnDisk places waited) → OnOk r ((path : List ℕ) → IsSettling top places path → HasSettled after top new path)
on_settled after top new places waited (Ok x) h on = λ path is. h path on is
on_settled after top new places waited (Err x) h on = tt

-- what holds of each path holds of all of some
pub each_of : (P : List ℕ → Type 0) (paths : List (List ℕ)) → ((path : List ℕ) → P path) → AllByRecursion P paths
each_of P [] h = tt
each_of P (path ∷ paths) h = (h path, each_of P paths h)

pub each_by : (P Q : List ℕ → Type 0) (paths : List (List ℕ)) → AllByRecursion P paths → ((path : List ℕ) → P path → Q path) → AllByRecursion Q paths
each_by P Q [] all h = tt
each_by P Q (path ∷ paths) all h = (h path all.0, each_by P Q paths all.1 h)

-- a place that is one of some is one of more
among-more : (places more : List (List ℕ)) (place : List ℕ) → IsAmong places place → IsAmong (places ++ more) place
among-more [] more place h = absurd h
among-more (p ∷ ps) more place (inl same) = inl same
among-more (p ∷ ps) more place (inr later) = inr (among-more ps more place later)

pub among-last : (places : List (List ℕ)) (place : List ℕ) → IsAmong (places ++ place ∷ []) place
among-last [] place = inl refl
among-last (p ∷ ps) place = inr (among-last ps place)

-- that directory is the last one then
pub last_new : (top : List ℕ) (places : List (List ℕ)) (dir place : List ℕ) → place ≡ path_join top dir → IsAmong (places ++ place ∷ []) (path_join top dir)
last_new top places dir place at = subst (λ p. IsAmong (places ++ place ∷ []) p) at (among-last places place)

-- a directory that is one of some is one of more
pub dir-more : (top : List ℕ) (places more : List (List ℕ)) (dir : Option (List ℕ)) → IfSome dir (λ d. IsAmong places (path_join top d)) → IfSome dir (λ d. IsAmong (places ++ more) (path_join top d))
dir-more top places more None h = tt
dir-more top places more (Some dir) h = among-more places more (path_join top dir) h

pub covered-more : (top : List ℕ) (places more : List (List ℕ)) (steps : List Step) → AllByRecursion (IsCovered top places) steps → AllByRecursion (IsCovered top (places ++ more)) steps
covered-more top places more [] h = tt
covered-more top places more (step ∷ steps) h = (dir-more top places more (dir_changed step) h.0, covered-more top places more steps h.1)

-- one file more, with its place, whose directory is there
pub settling_one : (top : List ℕ) (places paths : List (List ℕ)) (path place : List ℕ) → AllByRecursion (IsSettling top places) paths → place ≡ path_join top path → IfSome (parent_of path) (λ dir. IsAmong places (path_join top dir)) → AllByRecursion (IsSettling top (places ++ place ∷ [])) (paths ++ path ∷ [])
settling_one top places paths path place h at dir =
    let more = places ++ place ∷ [] in
    let first = each_by (IsSettling top places) (IsSettling top more) paths h (λ p is. (among-more places (place ∷ []) (path_join top p) is.0, dir-more top places (place ∷ []) (parent_of p) is.1)) in
    AllByRecursion-append (IsSettling top more) paths (path ∷ []) first ((subst (IsAmong more) at (among-last places place), dir-more top places (place ∷ []) (parent_of path) dir), tt)

-- and with its directory's
pub settling_both : (top : List ℕ) (places paths : List (List ℕ)) (path place dir up : List ℕ) → AllByRecursion (IsSettling top places) paths → place ≡ path_join top path → Some dir ≡ parent_of path → up ≡ path_join top dir → AllByRecursion (IsSettling top ((places ++ place ∷ []) ++ up ∷ [])) (paths ++ path ∷ [])
settling_both top places paths path place dir up h at is above =
    let one = places ++ place ∷ [] in
    let both = one ++ up ∷ [] in
    let first = each_by (IsSettling top places) (IsSettling top both) paths h
    (λ p is. (among-more one (up ∷ []) (path_join top p) (among-more places (place ∷ []) (path_join top p) is.0), dir-more top one (up ∷ []) (parent_of p) (dir-more top places (place ∷ []) (parent_of p) is.1))) in
    let there = among-more one (up ∷ []) (path_join top path) (subst (IsAmong one) at (among-last places place)) in
    AllByRecursion-append (IsSettling top both) paths (path ∷ []) first ((there, subst (λ d. IfSome d (λ x. IsAmong both (path_join top x))) is (last_new top one dir up above)), tt)

-- one step more, whose directory is there
pub covered_same : (top : List ℕ) (places : List (List ℕ)) (steps : List Step) (step : Step) → AllByRecursion (IsCovered top places) steps → IsCovered top places step → AllByRecursion (IsCovered top places) (steps ++ step ∷ [])
covered_same top places steps step h last = AllByRecursion-append (IsCovered top places) steps (step ∷ []) h (last, tt)

-- one step more, with its directory
pub covered_new : (top : List ℕ) (places : List (List ℕ)) (steps : List Step) (step : Step) (dir place : List ℕ) → AllByRecursion (IsCovered top places) steps → Some dir ≡ dir_changed step → place ≡ path_join top dir → AllByRecursion (IsCovered top (places ++ place ∷ [])) (steps ++ step ∷ [])
covered_new top places steps step dir place h is at =
    covered_same top (places ++ place ∷ []) steps step (covered-more top places (place ∷ []) steps h)
    (subst (λ d. IfSome d (λ x. IsAmong (places ++ place ∷ []) (path_join top x))) is (subst (λ p. IsAmong (places ++ place ∷ []) p) at (among-last places place)))
