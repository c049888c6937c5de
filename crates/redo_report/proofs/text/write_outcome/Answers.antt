use Rattle.std.proofs.Common.{[], refl}
use Rattle.std.specs.Prelude.{codes}
use Rattle.std.proofs.KnownBytes.{Appends-nil}
use Rattle.redo_report.specs.ReportText.{why_words}
use Rattle.redo_report.proofs.WritingLemmas.{writes-failed, writes-last}
use Rattle.redo_report.proofs.text.write_outcome.Goals as goal

pub returns-in_err-write_all-in-Failed-clause-writes : goal.returns-in_err-write_all-in-Failed-clause-writes
returns-in_err-write_all-in-Failed-clause-writes g c =
    rw c.in-Failed.is (writes-failed _ c.in_err-write_all-in-Failed.field-0.0 c.from_residual.result c.from_residual.ensures.1 _ _ _
    [] (codes "failed ") (why_words c.in-Failed.why) _ refl (Appends-nil _) c.in_err-write_all-in-Failed.ensures.writes)

pub returns-in_ok-write_all-in-Failed-clause-writes : goal.returns-in_ok-write_all-in-Failed-clause-writes
returns-in_ok-write_all-in-Failed-clause-writes g c =
    rw c.in-Failed.is (writes-last c.write_why.result _ _ _ (codes "failed ") (why_words c.in-Failed.why) _ refl
    c.in_ok-write_all-in-Failed.ensures.writes c.write_why.ensures.writes)
