use Rattle.std.proofs.Common.{rules, ◌≡◌, ◌∙◌, ap, refl, subst, sym}
use Rattle.redo_build.specs.Schedule.{nothing_known}
use Rattle.redo_skip.specs.Checks.{falls, lacks, standing, stands, stands_if}
use Rattle.redo_rules.specs.Build.{sources_by}
use Rattle.redo_rules.specs.Standing.{standing_of}
use Rattle.redo_tree.specs.Tree.{Tree}
use Rattle.redo_explain.specs.inside.Told.{sources_in, told_by}
use Rattle.redo_explain.proofs.StandingLemmas.{asks-by, falls-by, others-never-ask, stands-by}
use Rattle.redo_explain.proofs.standing.stands.Goals as goal

pub returns-in-Stands : goal.returns-in-Stands
returns-in-Stands c = λ are.
    let entry = c.args.entry.now in
    let read : c.deref.result.now ≡ c.args.past.now.sources = search rules in
    let P : Tree → Type 0 = λ t. stands ≡ standing (sources_by t 0) nothing_known entry in
    let alone = subst P read (sym (ap standing_of c.in-Stands.is) ∙ c.in_ok-standing_alone.ensures 0) in
    stands-by (sources_in c.args.past.now) (told_by c.args.rows.now) entry alone

pub returns-in-Falls : goal.returns-in-Falls
returns-in-Falls c = λ are.
    let entry = c.args.entry.now in
    let read : c.deref.result.now ≡ c.args.past.now.sources = search rules in
    let P : Tree → Type 0 = λ t. falls ≡ standing (sources_by t 0) nothing_known entry in
    let alone = subst P read (sym (ap standing_of c.in-Falls.is) ∙ c.in_ok-standing_alone.ensures 0) in
    falls-by (sources_in c.args.past.now) (told_by c.args.rows.now) entry alone

-- by the row of its path
pub returns-in-Change : goal.returns-in-Change
returns-in-Change c = λ are.
    let s = sources_in c.args.past.now in let a = told_by c.args.rows.now in
    let entry = c.args.entry.now in
    let read : c.deref.result.now ≡ c.args.past.now.sources = search rules in
    let P : Tree → Type 0 = λ t. lacks ≡ standing (sources_by t 0) nothing_known entry in
    let alone = subst P read (sym (ap standing_of c.in-Asks.is) ∙ c.in_ok-standing_alone.ensures 0) in
    let asks = alone ∙ ap (standing s nothing_known) c.in-Change.is in
    ap stands_if (c.is_told_as_recorded.ensures are)
    ∙ asks-by s a c.in-Change.state c.in-Change.path _ asks refl ∙ ap (standing s a) (sym c.in-Change.is)

-- no other entry asks
pub returns-in-Create : goal.returns-in-Create
returns-in-Create c = λ are.
    let s = sources_in c.args.past.now in
    let entry = c.args.entry.now in
    let read : c.deref.result.now ≡ c.args.past.now.sources = search rules in
    let P : Tree → Type 0 = λ t. lacks ≡ standing (sources_by t 0) nothing_known entry in
    let alone = subst P read (sym (ap standing_of c.in-Asks.is) ∙ c.in_ok-standing_alone.ensures 0) in
    absurd (others-never-ask s (told_by c.args.rows.now) entry c.in-Create.is alone)

pub returns-in-Create-2 : goal.returns-in-Create-2
returns-in-Create-2 c = λ are.
    let s = sources_in c.args.past.now in
    let entry = c.args.entry.now in
    let read : c.deref.result.now ≡ c.args.past.now.sources = search rules in
    let P : Tree → Type 0 = λ t. lacks ≡ standing (sources_by t 0) nothing_known entry in
    let alone = subst P read (sym (ap standing_of c.in-Asks.is) ∙ c.in_ok-standing_alone.ensures 0) in
    absurd (others-never-ask s (told_by c.args.rows.now) entry c.in-Create.is alone)
