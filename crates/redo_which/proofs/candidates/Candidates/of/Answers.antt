use Rattle.std.proofs.Common.{◌≤◌, ◌^◌, ◌∙◌, ◌||◌, [], ap, arith, codes, cond, length, nat_eq, subst, sym, List}
use Rattle.std.specs.List.{ends_with}
use Rattle.std.specs.Prelude.{flat_map, IfSome}
use Rattle.redo_path.specs.Names.{parent_of}
use Rattle.redo_which.specs.Candidates.{Place, is_reserved}
use Rattle.redo_which.specs.inside.First.{LiesIn}
use Rattle.redo_which.specs.inside.Distinct.{distinct_places}
use Rattle.redo_which.specs.inside.Slots.{slots_left}
use Rattle.redo_which.proofs.DistinctLemmas.{few-candidates}
use Rattle.redo_which.proofs.SlotLemmas.{candidates-none, candidates-some}
use Rattle.redo_which.proofs.candidates.Candidates.of.Goals as goal
use Rattle.redo_which.proofs.candidates.Candidates.of.Goals.{in-Some, in-None}

pub returns-clause-candidates : goal.returns-clause-candidates
returns-clause-candidates c =
    let name = c.name-name.result.now in
    let flat = λ (next : _). flat_map (λ (places : List Place). places) (slots_left name next) in
    elim c.match-parent_of_text.branch [
      | in-Some w ↦
          let dir = w.in-Some.dir.now in
          let lies : LiesIn c.args.target.now dir = record { is_path = c.text.ensures.path; parent = w.in-Some.ensures.text ∙ ap parent_of c.text.ensures.text; split = rw (← c.text.ensures.text) w.in-Some.ensures.names } in
          candidates-some c.args.target.now dir name (flat c.match-parent_of_text.next) lies c.name-name.ensures (ap flat w.next-is ∙ w.first_next-next.ensures.left ∙ ap (λ t. cond (ends_with nat_eq name (codes ".do") || is_reserved t) [] (distinct_places dir name)) w.text-in-Some.ensures.text)
      | in-None w ↦ ap flat w.next-is ∙ candidates-none c.args.target.now (w.in-None.ensures.text ∙ ap parent_of c.text.ensures.text)
    ]

pub returns-clause-target : goal.returns-clause-target
returns-clause-target c =
    let target = c.args.target.now in
    elim c.match-parent_of_text.branch [
      | in-Some w ↦
          let dir = w.in-Some.dir.now in
          let parent = w.in-Some.ensures.text ∙ ap parent_of c.text.ensures.text in
          let lies : LiesIn target dir = record { is_path = c.text.ensures.path; parent = parent; split = rw (← c.text.ensures.text) w.in-Some.ensures.names } in
          subst (λ o. IfSome o (LiesIn target)) parent lies
      | in-None w ↦ subst (λ o. IfSome o (LiesIn target)) (w.in-None.ensures.text ∙ ap parent_of c.text.ensures.text) tt
    ]

pub returns-clause-few : goal.returns-clause-few
returns-clause-few c =
    let target = c.args.target.now in
    subst (λ (ps : List Place). length ps ≤ 2 ^ 20) (sym (returns-clause-candidates c))
    (elim c.match-parent_of_text.branch [
      | in-Some w ↦
          let dir = w.in-Some.dir.now in
          let lies : LiesIn target dir = record { is_path = c.text.ensures.path; parent = w.in-Some.ensures.text ∙ ap parent_of c.text.ensures.text; split = rw (← c.text.ensures.text) w.in-Some.ensures.names } in
          few-candidates target dir lies
      | in-None w ↦ subst (λ (ps : List Place). length ps ≤ 2 ^ 20) (candidates-none target (w.in-None.ensures.text ∙ ap parent_of c.text.ensures.text)) (omega arith)
    ])
