use Rattle.std.proofs.Common.{◌≡◌, Some, ◌∙◌, subst, sym, slice_get, true≢false, ℕ}
use Rattle.redo_names.specs.inside.Index.{kept_over}
use Rattle.std.proofs.lemmas.Option.{none-some, same_Some}
use Rattle.redo_names.proofs.IndexLemmas.{absent-over}
use Rattle.redo_names.proofs.index.Index.look_over.Goals as goal

pub returns-else-is_at : goal.returns-else-is_at
returns-else-is_at c =
    let other = λ (n : ℕ) (kept : kept_over c.args.self.now.overflow c.args.text.now ≡ Some n) (here : slice_get c.args.paths.now n ≡ Some c.args.text.now).
    let same : n ≡ c.in-Some.number.now = sym (same_Some c.in-Some.number.now n (c.in-Some.ensures.value ∙ kept)) in
    true≢false (sym (c.is_at.ensures.1 (subst (λ k. slice_get c.args.paths.now k ≡ Some c.args.text.now) same here)) ∙ c.if-is_at.false) in
    (absent-over c.args.self.now c.args.paths.now c.args.text.now c.requires.index.finds c.requires.others other, c.requires.index.row, c.requires.taken)

pub returns-in_default : goal.returns-in_default
returns-in_default c =
    (absent-over c.args.self.now c.args.paths.now c.args.text.now c.requires.index.finds c.requires.others (λ n kept here. none-some n (c.in_default.ensures.value ∙ kept)), c.requires.index.row, c.requires.taken)
