use Rattle.std.proofs.Common.{◌≡◌, ◌∙◌, ◌++◌, ◌∷◌, ◌<◌, ◌+◌, [], true, false, ap, append_assoc, arith, cond, filter}
use Rattle.std.proofs.Common.{length, subst, sym, take, take_all, Vec, Global}
use Rattle.std.proofs.lemmas.List.{append-nil}
use Rattle.redo_book.specs.Book.{IsRecord, Record}
use Rattle.redo_past.specs.declared.items.BookItem.{BookItem}
use Rattle.redo_past.specs.inside.Books.{AreItems, StatesView, carries}
use Rattle.redo_past.proofs.ItemListLemmas.{all-at, item-pushed}
use Rattle.redo_past.proofs.LoopLemmas.{kept-more}
use Rattle.redo_past.proofs.carrying.carry.Goals as goal
use Rattle.redo_past.proofs.carrying.carry.Goals.{then-branch+in_ok-push, else-branch}

pub loop-old-preserved : goal.loop-old-preserved
loop-old-preserved c =
    let items = c.args.records.now in
    let states : StatesView = record { sources = c.args.past.now.sources; rows = c.args.rows.now } in
    let i = c.loop-old.old-index in
    let x : Record = c.old-item.result in
    let keeps = carries c.args.past.now c.args.rows.now in
    let kept = filter keeps (take i items) in
    let more = filter keeps (take (i + 1) items) in
    let below : i < length items = omega (arith, c.loop-old-test.true) in
    let step = kept-more keeps items i x below c.old-item.is in
    let is : IsRecord x = all-at IsRecord items i x c.requires.each below c.old-item.is in
    λ known are. elim c.if-branch.branch [
      | then-branch+in_ok-push w ↦
          let told : keeps x ≡ true = ap keeps (sym c.record.ensures) ∙ sym c.in_ok-is_carried.ensures ∙ w.if-branch.true in
          let same : (known ++ kept) ++ x ∷ [] ≡ known ++ more =
          append_assoc known kept (x ∷ [])
          ∙ ap (λ rs. known ++ rs) (sym (step ∙ ap (λ b. kept ++ cond b (x ∷ []) []) told)) in
          subst (λ (l : Vec BookItem Global). AreItems states l.items (known ++ more)) (sym w.items-is)
          (item-pushed states c.loop-old.items.items w.push.new.self.items (known ++ kept) (known ++ more) _ x w.in_ok-push.ensures.items (c.loop-old.invariant known are) w.same.ensures (subst IsRecord (sym w.same.ensures) is) same)
      | else-branch w ↦
          let told : keeps x ≡ false = ap keeps (sym c.record.ensures) ∙ sym c.in_ok-is_carried.ensures ∙ w.if-branch.false in
          let same : known ++ kept ≡ known ++ more =
          ap (λ rs. known ++ rs) (sym (step ∙ ap (λ b. kept ++ cond b (x ∷ []) []) told ∙ append-nil kept)) in
          subst (λ (l : Vec BookItem Global). AreItems states l.items (known ++ more)) (sym w.items-is) (subst (AreItems states c.loop-old.items.items) same (c.loop-old.invariant known are))
    ]

pub returns : goal.returns
returns c =
    let items = c.args.records.now in
    let states : StatesView = record { sources = c.args.past.now.sources; rows = c.args.rows.now } in
    let keeps = carries c.args.past.now c.args.rows.now in
    let all : take c.loop-old.old-index items ≡ items = take_all c.loop-old.old-index items (omega (arith, c.loop-old-test.false)) in
    λ known are. subst (λ rs. AreItems states c.loop-old.items.items (known ++ filter keeps rs)) all (c.loop-old.invariant known are)
