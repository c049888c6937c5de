use Rattle.std.proofs.Common.{◌≡◌, ◌<◌, ◌+◌, ◌∙◌, ◌++◌, ◌∷◌, [], true, false, List, Option, Some, None, ap, arith, drop, refl}
use Rattle.std.proofs.Common.{filter, if◌then◌else◌, length, slice_index_or, subst, sym, Vec, Global}
use Rattle.std.proofs.lemmas.List.{drop_all}
use Rattle.std.specs.List.{AllByRecursion, cons_option}
use Rattle.std.specs.Prelude.{filter_map}
use Rattle.redo_book.specs.Book.{IsBook, IsRecord, Record}
use Rattle.redo_report.specs.declared.report.Row.{Row}
use Rattle.redo_past.specs.NewBook.{record_of_row}
use Rattle.redo_past.specs.inside.Books.{AreItems, StatesView, carries, is_before, is_behind, joined, leaves_record, new_records}
use Rattle.redo_past.specs.inside.Books.{record_if_built}
use Rattle.redo_past.proofs.JoinLemmas.{all-kept, join-end, join-step, kept-book}
use Rattle.redo_past.proofs.LoopLemmas.{left-more}
use Rattle.redo_past.proofs.ItemListLemmas.{item-pushed, not-carried}
use Rattle.redo_past.proofs.NewBookLemmas.{leaves-below, leaves-built}
use Rattle.redo_past.specs.declared.items.BookItem.{BookItem}
use Rattle.redo_past.proofs.items.items_of.Goals as goal
use Rattle.redo_past.proofs.items.items_of.Goals.{then-has_record+in_ok-carry+in_ok-push, else-has_record}

pub loop-row-init : goal.loop-row-init
loop-row-init c =
    let past = c.args.past.now in
    let rows = c.args.rows.now in
    let states : StatesView = record { sources = past.sources; rows = rows } in
    let is : c.as_slice-left.result.now ≡ c.in_ok-old.old.items = c.as_slice-left.ensures.value in
    record {
      left = subst IsBook (sym is) c.in_ok-old.ensures.book;
      known = (
        [],
        subst (λ xs. AreItems states xs []) (sym c.new-items.ensures.items) (record { are = refl; sound = tt }),
        ap (joined (carries past rows) (filter_map (record_if_built past.sources rows) rows)) (is ∙ c.in_ok-old.ensures.records),
      );
    }

pub loop-row-preserved : goal.loop-row-preserved
loop-row-preserved c =
    let past = c.args.past.now in
    let rows = c.args.rows.now in
    let same_rows : c.in_order-in_order.result.now ≡ rows = c.in_order-in_order.ensures.rows in
    let states : StatesView = record { sources = past.sources; rows = rows } in
    let i = c.loop-row.row-index in
    let x : Row = c.row-item.result in
    let keeps = carries past rows in
    let old = c.loop-row.left.now in
    let f : Row → Option Record = record_if_built past.sources rows in
    let rest = filter_map f (drop (i + 1) rows) in
    let r = record_of_row past.sources rows x in
    let below : i < length rows = subst (λ (rs : List Row). i < length rs) same_rows (omega (arith, c.loop-row-test.true)) in
    let here : x ≡ slice_index_or rows i x = subst (λ (rs : List Row). x ≡ slice_index_or rs i x) same_rows c.row-item.is in
    let step : filter_map f (drop i rows) ≡ cons_option (f x) rest = left-more f rows i x below here in
    let done = c.loop-row.invariant.known.0 in
    let are : AreItems states c.loop-row.items.items done = c.loop-row.invariant.known.1 in
    let was : done ++ joined keeps (filter_map f (drop i rows)) old ≡ new_records past rows = c.loop-row.invariant.known.2 in
    elim c.if-has_record.branch [
      | then-has_record+in_ok-carry+in_ok-push w ↦
          let told : leaves_record x ≡ true = sym c.has_record.ensures ∙ w.if-has_record.true in
          let split : filter_map f (drop i rows) ≡ r ∷ rest =
          step ∙ ap (λ b. cons_option (if b then Some r else None) rest) told in
          let front = filter keeps (filter (is_before x.path) old) in
          let behind : w.split_before.result.1.now ≡ filter (is_behind x.path) old = w.split_before.ensures.left in
          let carried : AreItems states w.carry.new.items.items (done ++ front) =
          subst (λ rs. AreItems states w.carry.new.items.items (done ++ filter keeps rs)) w.split_before.ensures.front (w.in_ok-carry.ensures done are) in
          let bare : (q : Record) → q.target ≡ x.path → keeps q ≡ false = λ q same. not-carried past rows i x q c.in_order-in_order.ensures.order below here (leaves-built x told) same in
          let left : c.if-has_record.left.now ≡ w.but_of-left.result.now = ap (λ l. l.now) w.left-is in
          let book : IsBook w.split_before.result.1.now = subst IsBook (sym behind) (kept-book (is_behind x.path) old c.loop-row.invariant.left) in
          let others : joined keeps rest c.if-has_record.left.now ≡ joined keeps rest w.split_before.result.1.now =
          ap (joined keeps rest) left ∙ w.but_of-left.ensures.joined keeps bare rest in
          record {
            left = subst IsBook (sym left) (w.but_of-left.ensures.book book);
            known = (
              (done ++ front) ++ r ∷ [],
              subst (λ (l : Vec BookItem Global). AreItems states l.items ((done ++ front) ++ r ∷ [])) (sym w.items-is)
                  (item-pushed states w.carry.new.items.items w.push.new.self.items (done ++ front) ((done ++ front) ++ r ∷ []) _ r w.in_ok-push.ensures.items carried refl (leaves-below x told) refl),
              ap (λ l. ((done ++ front) ++ r ∷ []) ++ l) others
                  ∙ join-step keeps done r rest (filter_map f (drop i rows)) old w.split_before.result.1.now (new_records past rows) split behind was,
            );
          }
      | else-has_record w ↦
          let told : leaves_record x ≡ false = sym c.has_record.ensures ∙ w.if-has_record.false in
          let same : filter_map f (drop i rows) ≡ rest = step ∙ ap (λ b. cons_option (if b then Some r else None) rest) told in
          let left : c.if-has_record.left.now ≡ old = ap (λ l. l.now) w.left-is in
          record {
            left = subst IsBook (sym left) c.loop-row.invariant.left;
            known = (
              done,
              subst (λ (l : Vec BookItem Global). AreItems states l.items done) (sym w.items-is) are,
              ap (λ o. done ++ joined keeps rest o) left ∙ ap (λ b. done ++ joined keeps b old) (sym same) ∙ was,
            );
          }
    ]

pub carry-requires : goal.carry-requires
carry-requires c =
    record { each = subst (AllByRecursion IsRecord) (sym c.split_before.ensures.front) (all-kept IsRecord (is_before c.row-item.result.path) c.loop-row.left.now c.loop-row.invariant.left.records) }

pub returns : goal.returns
returns c =
    let past = c.args.past.now in
    let rows = c.args.rows.now in
    let done = c.loop-row.invariant.known.0 in
    let old = c.loop-row.left.now in
    let f : Row → Option Record = record_if_built past.sources rows in
    let none : drop c.loop-row.row-index rows ≡ [] =
    subst (λ (rs : List Row). drop c.loop-row.row-index rs ≡ []) c.in_order-in_order.ensures.rows (drop_all c.loop-row.row-index c.in_order-in_order.result.now (omega (arith, c.loop-row-test.false))) in
    let all : done ++ filter (carries past rows) old ≡ new_records past rows =
    join-end (carries past rows) done (filter_map f (drop c.loop-row.row-index rows)) old (new_records past rows) (ap (filter_map f) none) c.loop-row.invariant.known.2 in
    subst (AreItems (record { sources = past.sources; rows = rows }) c.carry-2.new.items.items) all (c.in_ok-carry-2.ensures done c.loop-row.invariant.known.1)
