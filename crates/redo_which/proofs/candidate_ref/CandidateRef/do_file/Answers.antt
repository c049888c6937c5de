use Rattle.std.proofs.Common.{◌∙◌, ◌++◌, ap, subst, sym}
use Rattle.redo_path.specs.Names.{IsPath}
use Rattle.redo_which.proofs.candidate_ref.CandidateRef.do_file.Goals as goal

pub of_text-requires : goal.of_text-requires
of_text-requires c = subst IsPath (sym (c.deref.ensures.value ∙ c.in_ok-spell.ensures.text ∙ ap (λ l. l ++ c.args.self.now.do_file) c.new-text.ensures.items)) c.spell.ensures.path
