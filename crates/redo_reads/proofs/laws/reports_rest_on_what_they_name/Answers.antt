use Rattle.redo_reads.proofs.ReportLemmas.{plain_report}
use Rattle.redo_reads.proofs.laws.reports_rest_on_what_they_name.Goals as goal

pub returns : goal.returns
returns c = λ one two limits request limit paths report alike agree is covered.
    plain_report c.more_answers.ensures one two limits request limit paths report alike agree is covered
