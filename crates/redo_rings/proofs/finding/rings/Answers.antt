use Rattle.std.proofs.Common.{◌≡◌, ◌<◌, ℕ, List, arith, length, map, subst, sym}
use Rattle.redo_names.specs.Paths.{is_among}
use Rattle.redo_report.specs.declared.report.Row.{Row}
use Rattle.redo_rings.specs.inside.Graph.{IsNext, cyclic_among}
use Rattle.redo_rings.specs.inside.Walks.{IsGraph, IsKnown}
use Rattle.redo_rings.proofs.FoundLemmas.{all-counted, all-once, all-rings, are-places, first-of, is-graph, others, places-in}
use Rattle.redo_rings.proofs.finding.rings.Goals as goal

pub all_walks-requires : goal.all_walks-requires
all_walks-requires c =
    let report = c.args.report.now in
    let names = c.in_ok-names.names in
    let n = subst (λ rows. IsNext rows names c.in_ok-next.next.items) c.deref-2.ensures.value c.in_ok-next.ensures in
    let same = λ (p : List ℕ). subst (λ rows. is_among names p ≡ is_among (map (λ (r : Row). r.path) (cyclic_among rows)) p) c.deref.ensures.value (c.in_ok-names.ensures p) in
    subst IsGraph (sym c.deref-3.ensures.value) (is-graph report names n.0 c.in_ok-next.next.items same n.1 n.2 n.3 n.4)

pub rings_of-requires-clause-within : goal.rings_of-requires-clause-within
rings_of-requires-clause-within c = λ k m circle at is.
    let walks = c.in_ok-walks.walks in
    let known = subst (λ l. IsKnown l walks.seen.items walks.places.items walks.circles.items) c.deref-3.ensures.value c.in_ok-walks.ensures.known in
    let within = (known.circles k circle at).within m is in
    let n = c.in_ok-next.ensures in
    omega (arith, within, n.2)

pub rings_of-requires-clause-first : goal.rings_of-requires-clause-first
rings_of-requires-clause-first c = λ k circle at.
    let walks = c.in_ok-walks.walks in
    first-of c.deref-3.result.now walks.seen.items walks.places.items k circle.members.items (c.in_ok-walks.ensures.known.circles k circle at)

pub rings_of-requires-clause-places : goal.rings_of-requires-clause-places
rings_of-requires-clause-places c =
    let walks = c.in_ok-walks.walks in
    places-in c.deref-3.result.now walks.seen.items walks.places.items walks.circles.items c.in_ok-walks.ensures.known c.in_ok-walks.ensures.all

pub returns : goal.returns
returns c =
    let report = c.args.report.now in
    let names = c.in_ok-names.names in
    let next = c.in_ok-next.next.items in
    let walks = c.in_ok-walks.walks in
    let seen = walks.seen.items in
    let places = walks.places.items in
    let circles = walks.circles.items in
    let n = subst (λ rows. IsNext rows names next) c.deref-2.ensures.value c.in_ok-next.ensures in
    let same = λ (p : List ℕ). subst (λ rows. is_among names p ≡ is_among (map (λ (r : Row). r.path) (cyclic_among rows)) p) c.deref.ensures.value (c.in_ok-names.ensures p) in
    let known = subst (λ l. IsKnown l seen places circles) c.deref-3.ensures.value c.in_ok-walks.ensures.known in
    let all = λ (m : ℕ) (under : m < length next). c.in_ok-walks.ensures.all m (subst (λ l. m < length l) (sym c.deref-3.ensures.value) under) in
    let rings = c.in_ok-rings.rings.items in
    let distinct = c.each_once.ensures in
    record {
      rings = all-rings next seen places circles known all report names n.0 same distinct n.1 n.2 n.3 n.4 rings c.in_ok-rings.ensures;
      once = all-once next seen places circles known all report names n.0 same distinct n.1 n.2 n.3 n.4 rings c.in_ok-rings.ensures;
      places = (
        others next seen places circles known all report names n.0 same distinct n.1 n.2 n.3 n.4 rings c.in_ok-rings.ensures,
        are-places next seen places circles known all report names n.0 same distinct n.1 n.2 n.3 n.4 rings c.in_ok-rings.ensures,
        all-counted next seen places circles known all report names n.0 same distinct n.1 n.2 n.3 n.4 rings c.in_ok-rings.ensures,
      );
    }
