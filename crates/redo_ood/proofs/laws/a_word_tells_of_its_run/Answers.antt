use Rattle.std.proofs.Common.{◌≡◌, ◌∙◌, ap, inl, inr, sym, true, false, Some}
use Rattle.redo_build.proofs.DepthLemmas.{cases_Option}
use Rattle.redo_ood.specs.Listing.{word_with}
use Rattle.redo_ood.proofs.WordLemmas.{keeps-by, may-words, never-lost, ring-by}
use Rattle.redo_ood.proofs.laws.a_word_tells_of_its_run.Goals as goal

pub returns-clause-kept : goal.returns-clause-kept
returns-clause-kept c = λ s last request limit lawful good few r in_check needed other none.
    c.verdicts_tell_of_this_run.ensures.keeps s last request limit lawful good few r.target r in_check needed
    (keeps-by s last request r other in_check none)

pub returns-clause-begun : goal.returns-clause-begun
returns-clause-begun c = λ s last request limit lawful good few r in_check needed other begun.
    elim (cases_Option (word_with s last request r)) [
      | inl none ↦
          let kept = c.verdicts_tell_of_this_run.ensures.keeps s last request limit lawful good few r.target r in_check needed
          (keeps-by s last request r other in_check none) in
          let bad : true ≡ false = sym begun.begins ∙ kept.waits in
          absurd cc
      | inr some ↦ (
        some.0,
        some.1,
        may-words some.0
            (λ ring.
            let waits = c.verdicts_tell_of_this_run.ensures.waits s last request limit lawful good few r.target r in_check needed
            (ring-by s last request r other in_check (some.1 ∙ ap Some ring)) in
            let bad : true ≡ false = sym begun.begins ∙ waits.1 in
            absurd cc)
            (λ lost. never-lost s last request r other in_check (some.1 ∙ ap Some lost)),
      )
    ]

pub returns-clause-ring : goal.returns-clause-ring
returns-clause-ring c = λ s last request limit lawful good few r in_check needed other ring.
    c.verdicts_tell_of_this_run.ensures.waits s last request limit lawful good few r.target r in_check needed
    (ring-by s last request r other in_check ring)
