use Rattle.std.proofs.Common.{◌∙◌, refl, sym, ap}
use Rattle.redo_step.specs.contracts.job.Job.{the_view}
use Rattle.std.specs.Arc.{arc_value}
use Rattle.redo_step.specs.declared.job.JobState.{JobState}
use Rattle.redo_step.proofs.AdvanceLemmas.{ended_well, ended, asks}
use Rattle.redo_script.specs.View.{script_of}
use Rattle.redo_step.specs.Parsed.{parsed_of}
use Rattle.redo_step.proofs.ComesLemmas.{if_ok_map}
use Rattle.redo_step.proofs.KeptLemmas.{same_kept}
use Rattle.redo_step.proofs.job.Job.advance.Goals as goal

pub returns-in-Finished : goal.returns-in-Finished
returns-in-Finished g c =
    let comes = rw c.in-Finished.is at (rw (c.deref-2.ensures.value, c.deref_mut.ensures.value) at c.in_ok-resume.ensures) in
    let fit = rw (← c.self.view_is) at c.requires.fits in
    rw (← c.self.view_is) (if_ok_map c.ended.result (λ step d. ended_well _ (the_view c.self.inside) c.in-Read.script fit (ap (λ (k : JobState). arc_value k.inputs.parsed) (sym c.deref_mut.ensures.value) ∙ sym c.deref.ensures ∙ c.in-Read.is) _ step comes d) (rw c.deref_mut.ensures.value at c.ended.ensures))

pub returns-in-Ended : goal.returns-in-Ended
returns-in-Ended g c =
    let comes = rw c.in-Ended.is at (rw (c.deref-2.ensures.value, c.deref_mut.ensures.value) at c.in_ok-resume.ensures) in
    let fit = rw (← c.self.view_is) at c.requires.fits in
    rw (← c.self.view_is) (if_ok_map c.ended-in-Ended.result (λ step d. ended _ (the_view c.self.inside) c.in-Read.script fit (ap (λ (k : JobState). arc_value k.inputs.parsed) (sym c.deref_mut.ensures.value) ∙ sym c.deref.ensures ∙ c.in-Read.is) _ _ step comes d) (rw c.deref_mut.ensures.value at c.ended-in-Ended.ensures))

pub returns-in-Stopped : goal.returns-in-Stopped
returns-in-Stopped g c =
    let comes = rw c.in-Stopped.is at (rw (c.deref-2.ensures.value, c.deref_mut.ensures.value) at c.in_ok-resume.ensures) in
    let fit = rw (← c.self.view_is) at c.requires.fits in
    rw (← c.self.view_is, c.deref_mut-here.ensures.value, c.deref_mut.ensures.value) (asks _ (the_view c.self.inside) c.in-Read.script fit (ap (λ (k : JobState). arc_value k.inputs.parsed) (sym c.deref_mut.ensures.value) ∙ sym c.deref.ensures ∙ c.in-Read.is) c.in-Stopped.place _ _ c.in-Stopped.paths.items refl comes.0 comes.1)

pub resume-requires : goal.resume-requires
resume-requires g c =
    let whole = ap parsed_of (ap (λ (k : JobState). arc_value k.inputs.parsed) (sym c.deref_mut.ensures.value) ∙ sym c.deref.ensures ∙ c.in-Read.is) in
    rw (c.deref-2.ensures.value, c.take.ensures.value, c.deref_mut.ensures.value) (c.self.invariant (script_of c.in-Read.script.stmts.items) whole)

pub invariant_of-job : goal.invariant_of-job
invariant_of-job g c = rw (c.deref_mut-here.ensures.value, c.deref_mut.ensures.value) λ script is.
    let comes = rw c.in-Stopped.is at (rw (c.deref-2.ensures.value, c.deref_mut.ensures.value) at c.in_ok-resume.ensures) in
    let whole = ap parsed_of (ap (λ (k : JobState). arc_value k.inputs.parsed) (sym c.deref_mut.ensures.value) ∙ sym c.deref.ensures ∙ c.in-Read.is) in
    same_kept _ c.in-Stopped.place _ c.in-Stopped.kept _ _ script whole is comes.2
