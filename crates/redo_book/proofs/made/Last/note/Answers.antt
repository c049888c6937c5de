use Rattle.std.proofs.Common.{◌≡◌, Some, ap, false, length, not, refl, sym, true, ◌∙◌}
use Rattle.std.specs.List.{list_any}
use Rattle.redo_record.specs.Entries.{is_entered, with_entry as with_dep}
use Rattle.redo_book.specs.Book.{same_entry}
use Rattle.redo_book.specs.inside.Reading.{dep_of, deps_of, only_if}
use Rattle.redo_book.proofs.EntryLemmas.{always_more, deps_more, entered, not_put, was_put}
use Rattle.redo_book.proofs.made.Last.note.Goals as goal

pub returns-then-len-before-clause-new : goal.returns-then-len-before-clause-new
returns-then-len-before-clause-new c =
    let es = c.args.self.now.book_record.entries.items in
    let ds = c.args.self.now.deps in
    let d = c.in-Some.dep in
    let is : dep_of c.args.entry.now ≡ Some d = sym c.in_ok-dep.ensures ∙ c.in-Some.is in
    let same : length (with_dep ds d.kind d.path) ≡ length ds =
    ap length (sym c.in_ok-insert.ensures.ok) ∙ sym c.len.ensures ∙ c.if-len-before.true ∙ c.len-before.ensures in
    let found : list_any (same_entry c.args.entry.now) es ≡ true =
    sym (entered c.args.entry.now d es is) ∙ ap (λ ds. is_entered ds d.kind d.path) (sym c.requires.0) ∙ not_put ds d same in
    (refl, ap (λ b. only_if {A = Unit {0}} (not b) tt) found)

pub returns-clause-new : goal.returns-clause-new
returns-clause-new c =
    let es = c.args.self.now.book_record.entries.items in
    let ds = c.args.self.now.deps in
    let d = c.in-Some.dep in
    let is : dep_of c.args.entry.now ≡ Some d = sym c.in_ok-dep.ensures ∙ c.in-Some.is in
    let new : is_entered ds d.kind d.path ≡ false =
    was_put ds d (λ same. c.if-len-before.false (c.len.ensures ∙ ap length c.in_ok-insert.ensures.ok ∙ same ∙ sym c.len-before.ensures)) in
    let found : list_any (same_entry c.args.entry.now) es ≡ false =
    sym (entered c.args.entry.now d es is) ∙ ap (λ ds. is_entered ds d.kind d.path) (sym c.requires.0) ∙ new in
    ap (λ b. only_if {A = Unit {0}} (not b) tt) found

pub returns-clause-kept : goal.returns-clause-kept
returns-clause-kept c =
    let es = c.args.self.now.book_record.entries.items in
    let ds = c.args.self.now.deps in
    let d = c.in-Some.dep in
    let is : dep_of c.args.entry.now ≡ Some d = sym c.in_ok-dep.ensures ∙ c.in-Some.is in
    let new : is_entered ds d.kind d.path ≡ false =
    was_put ds d (λ same. c.if-len-before.false (c.len.ensures ∙ ap length c.in_ok-insert.ensures.ok ∙ same ∙ sym c.len-before.ensures)) in
    let none : is_entered (deps_of es) d.kind d.path ≡ false =
    ap (λ ds. is_entered ds d.kind d.path) (sym c.requires.0) ∙ new in (
      c.in_ok-insert.ensures.ok ∙ ap (λ ds. with_dep ds d.kind d.path) c.requires.0 ∙ deps_more es c.args.entry.now d is none,
      c.requires.1 ∙ sym (always_more es c.args.entry.now d is),
    )
