use Rattle.std.proofs.Common.{◌≡◌, [], Some, None, ap, ◌∙◌}
use Rattle.std.specs.Prelude.{is_some, unwrap_or}
use Rattle.std.specs.Arc.{arc_value}
use Rattle.redo_tree.specs.Tree.{file_at}
use Rattle.redo_script.specs.Texts.{script_in}
use Rattle.redo_which.specs.Views.{arguments_view}
use Rattle.redo_rules.specs.Build.{GivenView}
use Rattle.redo_core.proofs.ScriptLemmas.{begun-is}
use Rattle.redo_core.proofs.JobLemmas.{found_file}
use Rattle.redo_core.proofs.scripts.job_of.Goals as goal

pub unreachable-requires : goal.unreachable-requires
unreachable-requires c =
    let given : GivenView = arc_value c.args.given.now in
    let same : arc_value c.in_ok-tree.tree ≡ given.past.sources = c.in_ok-tree.ensures ∙ c.sources.ensures ∙ ap (λ (g : GivenView). g.past.sources) c.deref.ensures in
    let there = found_file given.past.sources c.args.target c.args.rule.do_file c.args.rule.missing (arguments_view c.args.rule.args) c.requires in
    let none : None ≡ file_at given.past.sources c.args.rule.do_file = c.in_default.ensures ∙ ap (λ t. file_at t c.args.rule.do_file) (c.deref-2.ensures ∙ same) in
    absurd (let bad = ap is_some none ∙ there in cc)

pub returns : goal.returns
returns c =
    let given : GivenView = arc_value c.args.given.now in
    let same : arc_value c.in_ok-tree.tree ≡ given.past.sources = c.in_ok-tree.ensures ∙ c.sources.ensures ∙ ap (λ (g : GivenView). g.past.sources) c.deref.ensures in
    let bounds : c.limits.result ≡ given.limits = c.limits.ensures ∙ ap (λ (g : GivenView). g.limits) c.deref-4.ensures in
    let file : Some c.in-Some.text.now ≡ file_at given.past.sources c.args.rule.do_file = c.in-Some.ensures ∙ ap (λ t. file_at t c.args.rule.do_file) (c.deref-2.ensures ∙ same) in
    begun-is given (arc_value c.in_ok-tree.tree) c.limits.result c.args.target c.args.rule (arc_value c.in_ok-parsed.parsed) c.in_ok-job.job
    same bounds c.requires (c.in_ok-parsed.ensures ∙ ap (λ o. script_in (unwrap_or o [])) file) c.in_ok-job.ensures.job c.in_ok-job.ensures.fits
