use Rattle.std.proofs.Common.{rules, ◌≡◌, ◌∙◌, ap, arith, length, sym, subst}
use Rattle.redo_skip.specs.Checks.{standing, stands}
use Rattle.redo_build.specs.Schedule.{nothing_known}
use Rattle.redo_rules.specs.Build.{sources_by, sources_for}
use Rattle.redo_skip.specs.inside.Stood.{StandAlone}
use Rattle.redo_tree.specs.Tree.{Tree}
use Rattle.redo_rules.specs.Standing.{standing_of}
use Rattle.redo_core.proofs.CheckSteps.{walk-end, walk-more}
use Rattle.redo_core.proofs.check.walk.Goals as goal

pub loop-at-preserved : goal.loop-at-preserved
loop-at-preserved c =
    let s = sources_for c.args.given.now in
    let es = c.args.entries.now in
    let i = c.loop-at.at in
    let x = c.index-entries-at.result in
    let told = c.in_ok-standing_alone.ensures c.args.given.now.limits.file_bytes in
    let read : c.deref.result.now ≡ c.args.given.now.past.sources = search rules in
    let P : Tree → Type 0 = λ t. standing (sources_by t c.args.given.now.limits.file_bytes) nothing_known x ≡ stands in
    let is : standing s nothing_known x ≡ stands = subst P read (sym told ∙ ap standing_of c.in-Stands.is) in
    (let l = c.loop-at.invariant.0 in omega (arith, l), walk-more s es c.args.from i x c.loop-at.invariant.1 (omega (arith, c.loop-at-test.true)) c.index-entries-at.is is)

pub returns-clause-walked : goal.returns-clause-walked
returns-clause-walked c =
    let s = sources_for c.args.given.now in
    let es = c.args.entries.now in
    let below = c.loop-at.auto.at-end c.requires in
    let end : c.loop-at.at ≡ length es = omega (arith, below, c.loop-at-test.false) in
    walk-end s es c.args.from c.requires (subst (λ n. StandAlone s es c.args.from n) end c.loop-at.invariant.1)
