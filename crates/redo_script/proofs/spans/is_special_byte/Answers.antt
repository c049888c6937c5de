use Rattle.std.proofs.Common.{refl, arith}
use Rattle.redo_script.specs.declared.spans.TheConstants.{SPECIAL_BYTES}
use Rattle.redo_script.specs.inside.Runs.{is_special}
use Rattle.redo_script.proofs.TableLemmas.{agree_below, from_table}
use Rattle.redo_script.proofs.spans.is_special_byte.Goals as goal

pub returns : goal.returns
unfolding agree_below
returns c = from_table SPECIAL_BYTES 46 is_special c.args.byte (omega arith) refl
