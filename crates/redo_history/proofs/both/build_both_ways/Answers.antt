use Rattle.redo_history.proofs.AnswerLemmas.{may-answer, may-many}
use Rattle.redo_history.proofs.both.build_both_ways.Goals as goal

pub returns-clause-one : goal.returns-clause-one
returns-clause-one g c =
    may-answer c.args.trees.0 c.args.request.now c.args.limits _ c.build_one-one.ensures.report
    c.build_one-one.ensures.book c.build_one-one.ensures.too_many

pub returns-clause-many : goal.returns-clause-many
returns-clause-many g c =
    may-many c.args.trees.1 c.args.request.now c.args.limits c.args.trees.0 c.requires.equal _
    c.build_many-many.ensures.report c.build_many-many.ensures.book c.build_many-many.ensures.too_many

pub returns-clause-same : goal.returns-clause-same
returns-clause-same g c =
    c.a_tree_has_one_answer.ensures c.args.trees.0 c.args.request.now c.args.limits _ _ (returns-clause-one g c)
    (returns-clause-many g c)
