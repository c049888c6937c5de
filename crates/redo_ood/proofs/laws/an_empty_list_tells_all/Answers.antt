use Rattle.std.proofs.Common.{inl, inr, []}
use Rattle.redo_ood.proofs.HonestListLemmas.{first-listed, none-unforeseen}
use Rattle.redo_ood.proofs.laws.an_empty_list_tells_all.Goals as goal

pub returns-clause-first : goal.returns-clause-first
returns-clause-first c = λ given report listed is list honest target path on first.
    first-listed given honest report is listed list target path on first

pub returns-clause-empty : goal.returns-clause-empty
returns-clause-empty c = λ given report is list honest p m.
    elim (c.a_list_tells_of_its_run.ensures.begun given report [] is list p m) [
      | inl asked ↦ asked
      | inr more ↦ elim more [
        | inl told ↦ absurd told
        | inr un ↦ absurd (none-unforeseen given (λ t q on first. first-listed given honest report is [] list t q on first) un)
      ]
    ]
