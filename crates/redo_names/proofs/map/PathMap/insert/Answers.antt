use Rattle.std.proofs.Common.{◌≡◌, ◌<◌, ◌∙◌, ◌++◌, ◌∷◌, [], Some, ap, arith, get_or, length, refl, set, subst, sym, slice_get, cond}
use Rattle.std.specs.List.{zip}
use Rattle.std.specs.Map.{lookup}
use Rattle.std.specs.Prelude.{bytes_eq}
use Rattle.std.proofs.lemmas.List.{length-append}
use Rattle.std.proofs.lemmas.Option.{none-some, slice_get_read, slice_get_within}
use Rattle.redo_names.specs.Paths.{AreDistinct}
use Rattle.redo_names.proofs.PathLemmas.{distinct-last, put-new, put-there, was-new, was-there}
use Rattle.redo_names.proofs.MapLemmas.{found-at, lookup-last, lookup-set, none-found, zip-last}
use Rattle.redo_names.proofs.map.PathMap.insert.Goals as goal

-- ---- the path is new

pub invariant_of-self-then-new : goal.invariant_of-self-then-new
invariant_of-self-then-new g c =
    let ps = c.self.inside.paths in
    let vs = c.self.inside.values.items in
    let p = c.args.path in
    let v = c.args.value in
    let none = was-new ps p c.in_ok-number.new c.in_ok-number.ensures.added c.if-new.true in
    let keys : c.insert.new.self ≡ ps ++ p ∷ [] = c.in_ok-number.ensures.paths ∙ put-new ps p none in
    let values : c.push_reserved.new.self.items ≡ vs ++ v ∷ [] = c.push_reserved.ensures.items ∙ ap (λ xs. xs ++ v ∷ []) c.reserve.ensures.items in
    let sizes = c.self.invariant.0 in
    let more = length-append ps (p ∷ []) in
    let longer = length-append vs (v ∷ []) in
    let a = ap length keys in
    let b = ap length values in
    (omega arith, subst AreDistinct (sym keys) (distinct-last ps p c.self.invariant.1 none))

pub returns-then-new-clause-old : goal.returns-then-new-clause-old
returns-then-new-clause-old g c =
    let ps = c.self.inside.paths in
    let none = was-new ps c.args.path c.in_ok-number.new c.in_ok-number.ensures.added c.if-new.true in
    sym (none-found ps c.self.inside.values.items c.args.path none) ∙ ap (lookup (bytes_eq c.args.path)) c.self.view_is

pub returns-then-new-clause-updates : goal.returns-then-new-clause-updates
returns-then-new-clause-updates g c = λ q.
    let ps = c.self.inside.paths in
    let vs = c.self.inside.values.items in
    let p = c.args.path in
    let v = c.args.value in
    let none = was-new ps p c.in_ok-number.new c.in_ok-number.ensures.added c.if-new.true in
    let keys : c.insert.new.self ≡ ps ++ p ∷ [] = c.in_ok-number.ensures.paths ∙ put-new ps p none in
    let values : c.push_reserved.new.self.items ≡ vs ++ v ∷ [] = c.push_reserved.ensures.items ∙ ap (λ xs. xs ++ v ∷ []) c.reserve.ensures.items in
    ap (lookup (bytes_eq q)) ((λ i. zip (keys i) (values i)) ∙ zip-last ps vs p v c.self.invariant.0)
    ∙ lookup-last ps vs p v q none
    ∙ ap (λ es. cond (bytes_eq p q) (Some v) (lookup (bytes_eq q) es)) c.self.view_is

pub returns-then-new-clause-new : goal.returns-then-new-clause-new
returns-then-new-clause-new g c = λ free.
    let ps = c.self.inside.paths in
    let vs = c.self.inside.values.items in
    let p = c.args.path in
    let v = c.args.value in
    let none = was-new ps p c.in_ok-number.new c.in_ok-number.ensures.added c.if-new.true in
    let keys : c.insert.new.self ≡ ps ++ p ∷ [] = c.in_ok-number.ensures.paths ∙ put-new ps p none in
    let values : c.push_reserved.new.self.items ≡ vs ++ v ∷ [] = c.push_reserved.ensures.items ∙ ap (λ xs. xs ++ v ∷ []) c.reserve.ensures.items in
    (λ i. zip (keys i) (values i)) ∙ zip-last ps vs p v c.self.invariant.0 ∙ ap (λ es. es ++ (p, v) ∷ []) c.self.view_is

-- ---- the path was there

pub index_mut-requires : goal.index_mut-requires
index_mut-requires g c =
    let ps = c.self.inside.paths in
    let vs = c.self.inside.values.items in
    let p = c.args.path in
    let there = was-there ps p c.in_ok-number.new c.in_ok-number.ensures.added c.if-new.false in
    let keys : c.insert.new.self ≡ ps = c.in_ok-number.ensures.paths ∙ put-there ps p there in
    let inside = slice_get_within ps c.in_ok-number.number p (subst (λ ks. slice_get ks c.in_ok-number.number ≡ Some p) keys c.in_ok-number.ensures.number) in
    let sizes = c.self.invariant.0 in
    let same = ap length c.reserve.ensures.items in
    omega arith

pub returns-clause-old : goal.returns-clause-old
returns-clause-old g c =
    let ps = c.self.inside.paths in
    let vs = c.self.inside.values.items in
    let p = c.args.path in
    let n = c.in_ok-number.number in
    let x = c.index_mut.result.now in
    let there = was-there ps p c.in_ok-number.new c.in_ok-number.ensures.added c.if-new.false in
    let keys : c.insert.new.self ≡ ps = c.in_ok-number.ensures.paths ∙ put-there ps p there in
    let number : slice_get ps n ≡ Some p = subst (λ ks. slice_get ks n ≡ Some p) keys c.in_ok-number.ensures.number in
    let inside = subst (λ k. n < k) c.self.invariant.0 (slice_get_within ps n p number) in
    let value = slice_get_read vs (length vs) n x refl inside (c.index_mut.ensures.value ∙ ap (λ xs. get_or xs n x) c.reserve.ensures.items) in
    ap Some c.replace.ensures.value ∙ sym (found-at ps vs n p x c.self.invariant.1 number value) ∙ ap (lookup (bytes_eq p)) c.self.view_is

pub returns-clause-updates : goal.returns-clause-updates
returns-clause-updates g c = λ q.
    let ps = c.self.inside.paths in
    let vs = c.self.inside.values.items in
    let p = c.args.path in
    let n = c.in_ok-number.number in
    let there = was-there ps p c.in_ok-number.new c.in_ok-number.ensures.added c.if-new.false in
    let keys : c.insert.new.self ≡ ps = c.in_ok-number.ensures.paths ∙ put-there ps p there in
    let number : slice_get ps n ≡ Some p = subst (λ ks. slice_get ks n ≡ Some p) keys c.in_ok-number.ensures.number in
    let inside = subst (λ k. n < k) c.self.invariant.0 (slice_get_within ps n p number) in
    ap (lookup (bytes_eq q)) (λ i. zip (keys i) (set (c.reserve.ensures.items i) n (c.replace.ensures.after i)))
    ∙ lookup-set ps vs n p c.args.value q c.self.invariant.1 number inside
    ∙ ap (λ es. cond (bytes_eq p q) (Some c.args.value) (lookup (bytes_eq q) es)) c.self.view_is

pub returns-clause-new : goal.returns-clause-new
returns-clause-new g c = λ free.
    let ps = c.self.inside.paths in
    let vs = c.self.inside.values.items in
    let p = c.args.path in
    let n = c.in_ok-number.number in
    let x = c.index_mut.result.now in
    let there = was-there ps p c.in_ok-number.new c.in_ok-number.ensures.added c.if-new.false in
    let keys : c.insert.new.self ≡ ps = c.in_ok-number.ensures.paths ∙ put-there ps p there in
    let number : slice_get ps n ≡ Some p = subst (λ ks. slice_get ks n ≡ Some p) keys c.in_ok-number.ensures.number in
    let inside = subst (λ k. n < k) c.self.invariant.0 (slice_get_within ps n p number) in
    let value = slice_get_read vs (length vs) n x refl inside (c.index_mut.ensures.value ∙ ap (λ xs. get_or xs n x) c.reserve.ensures.items) in
    absurd (none-some x (sym free ∙ sym (ap (lookup (bytes_eq p)) c.self.view_is) ∙ found-at ps vs n p x c.self.invariant.1 number value))
