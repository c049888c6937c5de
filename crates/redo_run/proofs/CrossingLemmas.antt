-- Jobs and pieces may cross threads, and so may the ends of a relay of them. Their parts hold syntax trees, so this is
-- shown from the smallest up, in steps that `search` can take.
use denote.RattleType.{RattleType}
use denote.Param.SendFields.{as_row_send}
use denote.Param.Send.{IsSend, IsSync, sendable}
use Rattle.std.proofs.Crossing as heap
use Rattle.std.proofs.marker.PhantomData.TheSendSync as phantom
use Rattle.std.specs.contracts.alloc.AllocError as Refusal
use Rattle.std.specs.contracts.result.Result as Results
use Rattle.redo_names.proofs.map.PathMap.TheSendSync as maps
use Rattle.redo_names.proofs.set.PathSet.TheSendSync as sets
use Rattle.redo_bytes.proofs.Bytes.TheSendSync as bytes
use Rattle.redo_path.proofs.Path.TheSendSync as path
use Rattle.redo_tree.proofs.content.Content.TheSendSync as content
use Rattle.redo_tree.proofs.entries.Tree.TheSendSync as tree
use Rattle.redo_past.proofs.past.Past.TheSendSync as past
use Rattle.redo_which.proofs.Rule.TheSendSync as rule
use Rattle.redo_script.proofs.ast.Stmt.TheLaws.TheKnot as stmt
use Rattle.redo_script.proofs.ast.Word.TheSendSync as word
use Rattle.redo_script.proofs.ast.Command.TheSendSync as command
use Rattle.redo_script.proofs.ast.Condition.TheSendSync as condition
use Rattle.redo_script.proofs.fault.ScriptFault.TheSendSync as fault
use Rattle.redo_step.proofs.limits.Limits.TheSendSync as limits
use Rattle.redo_step.proofs.machine.Effects.TheSendSync as effects
use Rattle.redo_step.proofs.place.StopPlace.TheLaws.TheKnot as place
use Rattle.redo_step.proofs.scope.Values.TheSendSync as values
use Rattle.redo_step.proofs.wait.WaitingChange.TheSendSync as wait
use Rattle.redo_record.proofs.deps.Deps.TheSendSync as deps
use Rattle.redo_record.proofs.outcome.Outcome.TheSendSync as outcome
use Rattle.redo_record.proofs.record.Record.TheSendSync as records
use Rattle.redo_sync.proofs.cells.Cells.TheSendSync as cells
use Rattle.redo_sync.proofs.cells.Known.TheSendSync as known
use Rattle.redo_script.specs.contracts.ast.Script as Script
use Rattle.redo_step.specs.contracts.parsed.Parsed as Parsed
use Rattle.redo_step.specs.contracts.place.StopPlace as StopPlace
use Rattle.redo_step.specs.contracts.job.JobInputs as JobInputs
use Rattle.redo_step.specs.contracts.job.Job as Job
use Rattle.redo_core.specs.contracts.scripts.Reading as Reading
use Rattle.redo_core.specs.contracts.given.Given as Given
use Rattle.redo_core.specs.contracts.fact.Fact as Fact
use Rattle.redo_core.specs.contracts.facts.Facts as Facts
use Rattle.redo_core.specs.contracts.work.Unread as Unread
use Rattle.redo_core.specs.contracts.work.Begun as Begun
use Rattle.redo_core.specs.contracts.work.ScriptStage as ScriptStage
use Rattle.redo_core.specs.contracts.work.Work as Work
use Rattle.redo_core.specs.contracts.work.End as End
use Rattle.redo_core.specs.contracts.work.Piece as Piece
use Rattle.redo_run.specs.declared.of_build.BuildBrand.{Ghosts}
use Rattle.redo_run.specs.contracts.of_build.JobOf as JobOf
use Rattle.redo_run.specs.contracts.of_build.PieceOf as PieceOf

pub script_send : IsSend (Script.the_field).row
script_send = search (stmt.crosses, bytes.the_send, word.the_field_send, command.the_field_send, condition.the_field_send, sendable, heap.crosses) depth 20

pub script_sync : IsSync (Script.the_field).row
script_sync = search (stmt.crosses, bytes.the_sync, word.the_field_sync, command.the_field_sync, condition.the_field_sync, sendable, heap.crosses) depth 20

pub parsed_send : IsSend (Parsed.the_field).row
parsed_send = search (script_send, fault.the_field_send, sendable, heap.crosses) depth 20

pub parsed_sync : IsSync (Parsed.the_field).row
parsed_sync = search (script_sync, fault.the_field_sync, sendable, heap.crosses) depth 20

pub reading_send : IsSend (Reading.the_field).row
reading_send = search (parsed_send, parsed_sync, sendable, heap.crosses) depth 20

pub reading_sync : IsSync (Reading.the_field).row
reading_sync = search (parsed_send, parsed_sync, sendable, heap.crosses) depth 20

pub given_send : IsSend (Given.the_field).row
given_send = search (reading_send, reading_sync, content.the_send, content.the_sync, cells.the_send, cells.the_sync, past.the_send, path.the_send, sets.the_send, limits.the_send, sendable, heap.crosses) depth 20

pub given_sync : IsSync (Given.the_field).row
given_sync = search (reading_send, reading_sync, content.the_send, content.the_sync, cells.the_send, cells.the_sync, past.the_sync, path.the_sync, sets.the_sync, limits.the_sync, sendable, heap.crosses) depth 20

pub fact_send : IsSend (Fact.the_field).row
fact_send = search (given_send, given_sync, path.the_send, outcome.the_field_send, records.the_send, records.the_sync, sendable, heap.crosses) depth 20

pub fact_sync : IsSync (Fact.the_field).row
fact_sync = search (given_send, given_sync, path.the_sync, outcome.the_field_sync, records.the_send, records.the_sync, sendable, heap.crosses) depth 20

pub facts_send : IsSend (Facts.the_field).row
facts_send = search (fact_send, fact_sync, known.the_send, maps.the_send, deps.the_send, sendable, heap.crosses) depth 20

pub inputs_send : IsSend (JobInputs.the_field).row
inputs_send = search (parsed_send, parsed_sync, tree.the_send, tree.the_sync, path.the_send, rule.the_field_send, limits.the_send, sendable, heap.crosses) depth 20

pub place_send : IsSend (StopPlace.the_field).row
place_send = search (values.the_send, place.send-StopPlace, sendable, heap.crosses) depth 20

pub job_send : IsSend (Job.the_field).row
job_send = search (inputs_send, place_send, wait.the_field_send, effects.the_field_send, sendable, heap.crosses) depth 20

pub unread_send : IsSend (Unread.the_field).row
unread_send = search (facts_send, path.the_send, rule.the_field_send, sendable, heap.crosses) depth 20

pub begun_send : IsSend (Begun.the_field).row
begun_send = search (job_send, facts_send, sendable, heap.crosses) depth 20

pub stage_send : IsSend (ScriptStage.the_field).row
stage_send = search (unread_send, begun_send, sendable, heap.crosses) depth 20

pub work_send : IsSend (Work.the_field).row
work_send = search (stage_send, given_send, given_sync, sendable, heap.crosses) depth 20

pub end_send : IsSend (End.the_field).row
end_send = search (fact_send, deps.the_send, begun_send, path.the_send, sendable, heap.crosses) depth 20

pub piece_send : IsSend (Piece.the_field).row
piece_send = search (end_send, given_send, given_sync, path.the_send, sendable, heap.crosses) depth 20

module _ (B : RattleType) (b : Ghosts B.Denot) where
  job_fields_send : IsSend (JobOf.the_field B b).row
  job_fields_send = search (work_send, phantom.the_field_send, sendable, heap.crosses) depth 20

  pub job_of_send : IsSend (JobOf.the_row B b)
  job_of_send = as_row_send (JobOf.the_field B b) job_fields_send

  piece_fields_send : IsSend (PieceOf.the_field B b).row
  piece_fields_send = search (piece_send, phantom.the_field_send, sendable, heap.crosses) depth 20

  pub piece_of_send : IsSend (PieceOf.the_row B b)
  piece_of_send = as_row_send (PieceOf.the_field B b) piece_fields_send

  pub message_send : IsSend (Results.the_row (PieceOf.the_row B b) Refusal.the_row)
  message_send = search (piece_of_send, sendable, heap.crosses) depth 20
