use Rattle.std.proofs.Common.{refl, arith}
use Rattle.redo_script.specs.declared.bytes.TheConstants.{PLAIN_BYTES}
use Rattle.redo_script.specs.Bytes.{is_plain}
use Rattle.redo_script.proofs.TableLemmas.{agree_below, from_table}
use Rattle.redo_script.proofs.bytes.is_plain_byte.Goals as goal

pub returns : goal.returns
unfolding agree_below is_plain
returns c = from_table PLAIN_BYTES 35 is_plain c.args.byte (omega arith) refl
