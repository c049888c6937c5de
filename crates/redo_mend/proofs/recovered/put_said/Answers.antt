use Rattle.std.proofs.Common.{◌≡◌, ◌<◌, ◌+◌, ◌∙◌, ◌∷◌, List, ℕ, ap, arith, drop, length, map, subst, sym}
use Rattle.std.proofs.lemmas.List.{drop_more}
use Rattle.std.specs.Option.{option_or}
use Rattle.redo_book.specs.declared.book.BookRecord.{BookRecord}
use Rattle.redo_book.specs.Book.{IsBook, record_of}
use Rattle.redo_mend.specs.Recovered.{said_at}
use Rattle.redo_mend.specs.inside.Found.{found_at}
use Rattle.redo_mend.proofs.FoundLemmas.{seen, seen-insert, step}
use Rattle.redo_mend.proofs.recovered.put_said.Goals as goal
use Rattle.redo_mend.proofs.recovered.put_said.Goals.{then-is_intact+in_ok-insert, else-is_intact}

pub loop-made-preserved : goal.loop-made-preserved
loop-made-preserved c =
    let tree = c.args.tree.now in
    let items = c.args.records.now in
    let i = c.loop-made.made-index in
    let x : BookRecord = c.made-item.result in
    let below : i < length items = omega (arith, c.loop-made-test.true) in
    let split : drop i items ≡ x ∷ drop (i + 1) items = drop_more items i x below ∙ ap (λ (y : BookRecord). y ∷ drop (i + 1) items) (sym c.made-item.is) in
    let rest = map record_of (drop (i + 1) items) in
    let es = seen c.loop-made.found.entries in
    let all = λ (p : List ℕ). option_or (said_at tree (map record_of items) p) (found_at (seen c.args.found.now.entries) p) in
    let book : IsBook (record_of x ∷ rest) = subst (λ (l : List BookRecord). IsBook (map record_of l)) split c.loop-made.invariant.left in
    let was = subst (λ (l : List BookRecord). (p : List ℕ) → option_or (said_at tree (map record_of l) p) (found_at es p) ≡ all p) split c.loop-made.invariant.said in
    elim c.if-is_intact.branch [
      | then-is_intact+in_ok-insert w ↦
          let put = ap (λ m. seen m.entries) w.found-is ∙ ap seen w.in_ok-insert.ensures.entries ∙ seen-insert c.loop-made.found.entries _ _ in
          let next = step tree (record_of x) rest es _ _ all book c.loop-made.invariant.found (sym c.is_intact.ensures ∙ w.if-is_intact.true) put was in
          record { found = next.0; left = next.1.0; said = next.1.1 }
      | else-is_intact w ↦
          let next = step tree (record_of x) rest es _ _ all book c.loop-made.invariant.found (sym c.is_intact.ensures ∙ w.if-is_intact.false) (ap (λ m. seen m.entries) w.found-is) was in
          record { found = next.0; left = next.1.0; said = next.1.1 }
    ]
