use Rattle.std.proofs.Common.{rules, ◌≡◌, ◌∙◌, ◌<◌, ◌≤◌, ℕ, Some, Vec, Global, ap, subst, arith, length, map, get_or}
use Rattle.std.proofs.lemmas.Result.{IfOk-weaker}
use Rattle.redo_alike.specs.inside.Groups.{AreGroups, IsKey, IsKeyed}
use Rattle.redo_alike.specs.inside.Known.{known_at}
use Rattle.redo_alike.proofs.GroupLemmas.{keyed-at, keyed-groups, keyed-known, keyed-more, keyed-same}
use Rattle.redo_alike.proofs.KeyLemmas.{inserted, keys-apart, same-key}
use Rattle.redo_alike.proofs.OrderLemmas.{order-at, order-within}
use Rattle.redo_alike.proofs.groups.all_groups.Goals as goal

pub key_of-requires-clause-within : goal.key_of-requires-clause-within
key_of-requires-clause-within c = order-within c.args.nodes.now c.args.order.now c.requires.order c.loop-number.number-index c.loop-number-test.true

pub index_mut-requires : goal.index_mut-requires
index_mut-requires c =
    let low : get_or c.args.order.now c.loop-number.number-index 0 < length c.args.nodes.now =
    order-within c.args.nodes.now c.args.order.now c.requires.order c.loop-number.number-index c.loop-number-test.true in
    let size : length c.loop-number.known.items ≡ length c.args.nodes.now = c.loop-number.invariant.size in
    let under : get_or c.args.order.now c.loop-number.number-index 0 < length c.loop-number.known.items = omega (arith, low, size) in
    search rules

pub loop-number-preserved : goal.loop-number-preserved
loop-number-preserved c =
    let nodes = c.args.nodes.now in
    let order = c.args.order.now in
    let i = c.loop-number.number-index in
    let known = c.loop-number.known.items in
    let keys = c.loop-number.keys.keys in
    let after = c.insert_full.new.self.keys in
    let x = get_or order i 0 in
    let o = c.requires.order in
    let pos = order-at nodes order o i c.loop-number-test.true in
    let low : x < length nodes = order-within nodes order o i c.loop-number-test.true in
    let key = c.in_ok-key.key in
    let stored = c.in_ok-group.ensures.stored in
    let is_key : IsKey nodes (known_at known) x key = subst (λ l. IsKey nodes (known_at l) x key) c.deref.ensures.value c.in_ok-key.ensures in
    let is : IsKeyed nodes (known_at known) x stored.0 =
    keyed-same nodes (known_at known) x key stored.0 (same-key key stored.0 stored.2)
    (keyed-at nodes order o known keys i c.loop-number.invariant x key pos is_key) in
    keyed-more nodes order o known keys i c.loop-number.invariant after x c.in_ok-group.group stored.0 pos
    (omega (arith, low, c.loop-number.invariant.size)) is stored.1
    (inserted keys after key stored.0 c.in_ok-group.group c.in_ok-group.ensures.keys stored.1 stored.2)
    (keys-apart after c.insert_full.ensures.unique)

pub all_known-requires : goal.all_known-requires
all_known-requires c n low =
    let table = c.deref-2.ensures.value in
    let found = keyed-known c.args.nodes.now c.args.order.now c.requires.order c.loop-number.known.items c.loop-number.keys.keys
    c.loop-number.number-index c.loop-number.invariant c.loop-number-test.false n (subst (λ l. n < length l) table low) in
    (found.0, ap (λ l. known_at l n) table ∙ found.1)

pub returns : goal.returns
returns c =
    let few : c.loop-number.number-index ≤ length c.args.nodes.now = omega (arith, c.loop-number.auto.number-index-end, c.requires.size) in
    IfOk-weaker c.all_known.result (λ (all : Vec ℕ Global). map Some all.items ≡ c.deref-2.result.now)
    (λ (all : Vec ℕ Global). AreGroups c.args.nodes.now all.items)
    (λ (all : Vec ℕ Global) same.
    keyed-groups c.args.nodes.now c.args.order.now c.requires.order c.loop-number.known.items c.loop-number.keys.keys c.loop-number.number-index
    c.loop-number.invariant c.loop-number-test.false all.items (same ∙ c.deref-2.ensures.value) few) c.all_known.ensures
