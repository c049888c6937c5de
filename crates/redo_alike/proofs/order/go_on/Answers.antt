use Rattle.std.proofs.Common.{rules, ◌≡◌, ◌∙◌, ◌<◌, ◌+◌, ◌++◌, ◌∷◌, [], ℕ, List, Some, true, false, refl, sym, ap, subst, arith, length, set, get_or, slice_get}
use Rattle.std.proofs.lemmas.List.{get_or_read, length_push}
use Rattle.std.proofs.lemmas.Option.{slice_get_within}
use Rattle.redo_alike.specs.Alike.{needs_of}
use Rattle.redo_alike.specs.inside.Walks.{AreSeen, seen_at, unseen_count}
use Rattle.redo_alike.proofs.ListLemmas.{get-in}
use Rattle.redo_alike.proofs.WalkLemmas.{last-within, needs-there, read-is, seen-all, unseen-one, walk-follow, walk-leave, walk-same}
use Rattle.redo_alike.proofs.order.go_on.Goals as goal

pub bounds-nodes-here : goal.bounds-nodes-here
bounds-nodes-here c =
    let w = c.args.walk.now in
    last-within c.args.nodes.now w.seen.items w.next.items w.way.items w.left.items c.args.here c.requires.walk

pub offset_bounds-nodes-here : goal.offset_bounds-nodes-here
offset_bounds-nodes-here c =
    let w = c.args.walk.now in
    let within : c.args.here < length c.args.nodes.now =
    last-within c.args.nodes.now w.seen.items w.next.items w.way.items w.left.items c.args.here c.requires.walk in
    search rules

pub index-requires : goal.index-requires
index-requires c =
    let w = c.args.walk.now in
    let within : c.args.here < length c.args.nodes.now =
    last-within c.args.nodes.now w.seen.items w.next.items w.way.items w.left.items c.args.here c.requires.walk in
    let size : length w.next.items ≡ length c.args.nodes.now = c.requires.walk.next_size in
    search rules

pub next_unseen-requires : goal.next_unseen-requires
next_unseen-requires c = λ k m at.
    let w = c.args.walk.now in
    let nodes = c.args.nodes.now in
    let here = c.args.here in
    let within : here < length nodes = last-within nodes w.seen.items w.next.items w.way.items w.left.items here c.requires.walk in
    let same : c.deref.result.now ≡ needs_of (slice_get nodes here) = c.deref.ensures.value ∙ sym (needs-there nodes here c.index-nodes-here.result within) in
    let low : m < length nodes = c.requires.graph here m (get-in (needs_of (slice_get nodes here)) k m (subst (λ l. slice_get l k ≡ Some m) same at)) in
    let size : length c.deref-2.result.now ≡ length nodes = ap length c.deref-2.ensures.value ∙ c.requires.walk.seen_size in
    omega (arith, low, size)

pub overflow_add-place : goal.overflow_add-place
overflow_add-place c =
    let low : c.in-Some.place < length c.deref.result.now = slice_get_within c.deref.result.now c.in-Some.place c.in-Some.ensures.found.0 c.in-Some.ensures.found.1 in
    let long = c.deref.ensures.len in
    search rules

pub index_mut-requires : goal.index_mut-requires
index_mut-requires c =
    let w = c.args.walk.now in
    let within : c.args.here < length c.args.nodes.now =
    last-within c.args.nodes.now w.seen.items w.next.items w.way.items w.left.items c.args.here c.requires.walk in
    let size : length w.next.items ≡ length c.args.nodes.now = c.requires.walk.next_size in
    search rules

pub index-requires-in-Some : goal.index-requires-in-Some
index-requires-in-Some c =
    let low : c.in-Some.place < length c.deref.result.now = slice_get_within c.deref.result.now c.in-Some.place c.in-Some.ensures.found.0 c.in-Some.ensures.found.1 in
    let long = c.deref.ensures.len in
    search rules

-- the need at a place
module _ (needs held : List ℕ) (place x m : ℕ) (same : needs ≡ held) (read : x ≡ get_or held place x) (at : slice_get needs place ≡ Some m) where
  here-is : x ≡ m
  here-is = read-is held place x m read (subst (λ l. slice_get l place ≡ Some m) same at)

pub enter-requires : goal.enter-requires
enter-requires c =
    let w = c.args.walk.now in
    let nodes = c.args.nodes.now in
    let here = c.args.here in
    let x = c.index-in-Some.result.now in
    let found = c.in-Some.ensures.found in
    let within : here < length nodes = last-within nodes w.seen.items w.next.items w.way.items w.left.items here c.requires.walk in
    let there = needs-there nodes here c.index-nodes-here.result within in
    let same : c.deref.result.now ≡ needs_of (slice_get nodes here) = c.deref.ensures.value ∙ sym there in
    let is : x ≡ found.0 = here-is c.deref.result.now _ c.in-Some.place x found.0 c.deref.ensures.value c.index-in-Some.ensures found.1 in
    let low : found.0 < length nodes = c.requires.graph here found.0
    (get-in (needs_of (slice_get nodes here)) c.in-Some.place found.0 (subst (λ l. slice_get l c.in-Some.place ≡ Some found.0) same found.1)) in
    let size : length w.seen.items ≡ length nodes = c.requires.walk.seen_size in
    omega (arith, is, low, size)

pub returns-in_ok-enter-in-Some-clause-walk : goal.returns-in_ok-enter-in-Some-clause-walk
returns-in_ok-enter-in-Some-clause-walk c =
    let w = c.args.walk.now in
    let nodes = c.args.nodes.now in
    let here = c.args.here in
    let place = c.in-Some.place in
    let x = c.index-in-Some.result.now in
    let found = c.in-Some.ensures.found in
    let within : here < length nodes = last-within nodes w.seen.items w.next.items w.way.items w.left.items here c.requires.walk in
    let there = needs-there nodes here c.index-nodes-here.result within in
    let same : c.deref.result.now ≡ needs_of (slice_get nodes here) = c.deref.ensures.value ∙ sym there in
    let is : x ≡ found.0 = here-is c.deref.result.now _ place x found.0 c.deref.ensures.value c.index-in-Some.ensures found.1 in
    let from : c.index.result.now ≡ get_or w.next.items here 0 =
    get_or_read w.next.items here c.index.result.now (omega (arith, c.requires.walk.next_size, within)) c.index.ensures 0 in
    let at : slice_get (needs_of (slice_get nodes here)) place ≡ Some x = subst (λ l. slice_get l place ≡ Some found.0) same found.1 ∙ ap Some (sym is) in
    let new : seen_at w.seen.items x ≡ false =
    ap (λ k. seen_at w.seen.items k) is ∙ subst (λ l. seen_at l found.0 ≡ false) c.deref-2.ensures.value found.2 in
    let are : AreSeen (needs_of (slice_get nodes here)) w.seen.items (get_or w.next.items here 0) place =
    subst (λ k. AreSeen (needs_of (slice_get nodes here)) w.seen.items k place) from (
    subst (λ l. AreSeen (needs_of (slice_get nodes here)) l c.index.result.now place) c.deref-2.ensures.value (
    subst (λ l. AreSeen l c.deref-2.result.now c.index.result.now place) same c.in-Some.ensures.before)) in
    let pushed : c.push.new.self.items ≡ w.way.items ++ here ∷ [] = search rules in
    let way : c.enter.new.walk.way.items ≡ (w.way.items ++ here ∷ []) ++ x ∷ [] =
    c.in_ok-enter-in-Some.ensures.way ∙ ap (λ l. l ++ x ∷ []) pushed in
    let next : c.enter.new.walk.next.items ≡ set w.next.items here (place + 1) = search rules in
    let seen : c.enter.new.walk.seen.items ≡ set w.seen.items x true = search rules in
    let left : c.enter.new.walk.left.items ≡ w.left.items = search rules in
    walk-same nodes (set w.seen.items x true) c.enter.new.walk.seen.items (set w.next.items here (place + 1)) c.enter.new.walk.next.items
    ((w.way.items ++ here ∷ []) ++ x ∷ []) c.enter.new.walk.way.items w.left.items c.enter.new.walk.left.items seen next way left
    (walk-follow nodes w.seen.items w.next.items w.way.items w.left.items here place x c.requires.walk c.requires.graph are at new)

pub returns-in_ok-enter-in-Some-clause-less : goal.returns-in_ok-enter-in-Some-clause-less
returns-in_ok-enter-in-Some-clause-less c =
    let w = c.args.walk.now in
    let nodes = c.args.nodes.now in
    let here = c.args.here in
    let place = c.in-Some.place in
    let x = c.index-in-Some.result.now in
    let found = c.in-Some.ensures.found in
    let within : here < length nodes = last-within nodes w.seen.items w.next.items w.way.items w.left.items here c.requires.walk in
    let there = needs-there nodes here c.index-nodes-here.result within in
    let same : c.deref.result.now ≡ needs_of (slice_get nodes here) = c.deref.ensures.value ∙ sym there in
    let is : x ≡ found.0 = here-is c.deref.result.now _ place x found.0 c.deref.ensures.value c.index-in-Some.ensures found.1 in
    let new : seen_at w.seen.items x ≡ false =
    ap (λ k. seen_at w.seen.items k) is ∙ subst (λ l. seen_at l found.0 ≡ false) c.deref-2.ensures.value found.2 in
    let low : found.0 < length nodes = c.requires.graph here found.0
    (get-in (needs_of (slice_get nodes here)) place found.0 (subst (λ l. slice_get l place ≡ Some found.0) same found.1)) in
    let under : x < length w.seen.items = omega (arith, is, low, c.requires.walk.seen_size) in
    let one = unseen-one w.seen.items x under new in
    let pushed : c.push.new.self.items ≡ w.way.items ++ here ∷ [] = search rules in
    let way : length c.enter.new.walk.way.items ≡ (length w.way.items + 1) + 1 =
    ap length (c.in_ok-enter-in-Some.ensures.way ∙ ap (λ l. l ++ x ∷ []) pushed) ∙ length_push (w.way.items ++ here ∷ []) x ∙ ap (λ k. k + 1) (length_push w.way.items here) in
    let seen : unseen_count c.enter.new.walk.seen.items ≡ unseen_count (set w.seen.items x true) = ap unseen_count c.enter.ensures.seen in
    omega (arith, one, way, seen)

pub returns-in_ok-push-in-None-clause-walk : goal.returns-in_ok-push-in-None-clause-walk
returns-in_ok-push-in-None-clause-walk c =
    let w = c.args.walk.now in
    let nodes = c.args.nodes.now in
    let here = c.args.here in
    let within : here < length nodes = last-within nodes w.seen.items w.next.items w.way.items w.left.items here c.requires.walk in
    let there = needs-there nodes here c.index-nodes-here.result within in
    let same : c.deref.result.now ≡ needs_of (slice_get nodes here) = c.deref.ensures.value ∙ sym there in
    let from : c.index.result.now ≡ get_or w.next.items here 0 =
    get_or_read w.next.items here c.index.result.now (omega (arith, c.requires.walk.next_size, within)) c.index.ensures 0 in
    let rest : AreSeen (needs_of (slice_get nodes here)) w.seen.items (get_or w.next.items here 0) (length (needs_of (slice_get nodes here))) =
    subst (λ k. AreSeen (needs_of (slice_get nodes here)) w.seen.items k (length (needs_of (slice_get nodes here)))) from (
    subst (λ l. AreSeen (needs_of (slice_get nodes here)) l c.index.result.now (length (needs_of (slice_get nodes here)))) c.deref-2.ensures.value (
    subst (λ l. AreSeen l c.deref-2.result.now c.index.result.now (length l)) same c.in-None.ensures.none)) in
    let pushed : c.push-in-None.new.self.items ≡ w.left.items ++ here ∷ [] = search rules in
    walk-same nodes w.seen.items w.seen.items w.next.items w.next.items w.way.items w.way.items
    (w.left.items ++ here ∷ []) c.push-in-None.new.self.items refl refl refl pushed
    (walk-leave nodes w.seen.items w.next.items w.way.items w.left.items here c.requires.walk
    (seen-all (needs_of (slice_get nodes here)) w.seen.items (get_or w.next.items here 0) (c.requires.walk.looked here) rest))
