use Rattle.redo_step.proofs.AgreeingLemmas.{meaning_met, script_met}
use Rattle.redo_step.proofs.TopDirectoryLemmas.{top_unchanged, top_not_created}
use Rattle.redo_step.proofs.laws.what_was_built_is_met.Goals as goal

pub returns : goal.returns
returns c = record {
  declared = λ setting ask script n status. meaning_met setting ask script n status;
  recorded = λ setting ask deps parsed file kind p built there new.
      script_met setting ask deps parsed file built kind p there new;
  top_unchanged = λ tree limit target do_file missing arguments parsed ask file top found built nothing.
      top_unchanged tree limit target arguments top do_file missing found parsed ask file built nothing;
  top_not_created = λ tree limit target do_file missing arguments parsed ask file top found built.
      top_not_created tree limit target arguments top do_file missing found parsed ask file built;
}
