use Rattle.std.proofs.Common.{◌≡◌, ◌∙◌, rules, length, ap, subst, sym, drop, Some}
use Rattle.redo_rings.specs.inside.Walks.{IsEnd, IsIn, IsWay, place_at}
use Rattle.redo_rings.proofs.KnownLemmas.{known-more, known-written}
use Rattle.redo_rings.proofs.walks.follow.Goals as goal

pub returns-clause-known : goal.returns-clause-known
returns-clause-known c =
    let next = c.args.next.now in
    let seen = c.args.walks.now.seen.items in
    let places = c.args.walks.now.places.items in
    let circles = c.args.walks.now.circles.items in
    let after = c.walk.new.seen in
    let noted = c.settle.new.places in
    let table = c.place_of.new.circles in
    let ns = c.in_ok-way.way.numbers.items in
    let end = c.in_ok-way.way.end in
    let place = c.in_ok-place.place in
    let seen_was : c.deref_mut.result.now ≡ seen = search rules in
    let places_were : c.deref_mut-3.result.now ≡ places = search rules in
    let read : c.deref.result.now ≡ places = search rules in
    let circles_were : c.deref_mut-2.result.now ≡ circles = search rules in
    let numbers : c.deref-2.result.now ≡ ns = search rules in
    let many : length noted ≡ length c.deref_mut-3.result.now = search rules in
    let many_seen : length after ≡ length c.deref_mut.result.now = search rules in
    let many_circles : length table ≡ length c.deref_mut-2.result.now = search rules in
    let seen_len : length seen ≡ c.args.walks.now.seen.len = search rules in
    let places_len : length places ≡ c.args.walks.now.places.len = search rules in
    let circles_len : length circles ≡ c.args.walks.now.circles.len = search rules in
    let known = known-more next seen after c.args.start ns end
    (subst (λ l. IsWay next l after (Some c.args.start) ns end) seen_was c.in_ok-way.ensures.way) c.in_ok-way.ensures.stops
    places noted place circles table c.requires.known
    (subst (λ l. IsEnd ns end l circles place table) read
    (subst (λ l. IsEnd ns end c.deref.result.now l place table) circles_were c.in_ok-place.ensures))
    (many ∙ ap length places_were)
    (λ n is. c.settle.ensures.here n (subst (λ l. IsIn l n) (sym numbers) is))
    (λ n absent. c.settle.ensures.others n (λ is. absent (subst (λ l. IsIn l n) numbers is)) ∙ ap (λ l. place_at l n) places_were) in
    known-written next after noted table (drop (length after) seen) (drop (length noted) places) (drop (length table) circles)
    c.args.walks.now.seen.len c.args.walks.now.places.len c.args.walks.now.circles.len
    (many_seen ∙ ap length seen_was ∙ seen_len) (many ∙ ap length places_were ∙ places_len)
    (many_circles ∙ ap length circles_were ∙ circles_len) known
