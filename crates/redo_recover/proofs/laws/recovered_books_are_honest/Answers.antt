use Rattle.std.proofs.Common.{inl, inr, sym, ◌∙◌}
use Rattle.redo_mend.proofs.SaidLemmas.{recovered-is}
use Rattle.redo_recover.proofs.laws.recovered_books_are_honest.Goals as goal

pub returns : goal.returns
returns c = λ given tree journal old is here there p r e.
    elim (recovered-is tree journal old p r (sym (is.records p) ∙ e)) [ inl j ↦ here p r j | inr o ↦ there p r o ]
