use Rattle.std.proofs.Common.{◌≡◌, ◌∙◌, ◌+◌, ◌<◌, ap, arith, length, rules, subst, sym, length-append, get_or}
use Rattle.std.proofs.lemmas.List.{length-map}
use Rattle.redo_dir.specs.inside.Batches.{IsFront, asked, asked_of}
use Rattle.redo_dir.proofs.FrontLemmas.{first_stops, front_next}
use Rattle.redo_dir.proofs.storing.drafts_of.Goals as goal

pub returns-then-is_empty-clause-fault : goal.returns-then-is_empty-clause-fault
returns-then-is_empty-clause-fault g c =
    let file = c.loop-path-item.result in
    let none : c.loop-path.path-index ≡ 0 = search rules in
    first_stops c.args.files.now file c.in-Err.fault c.requires (subst (λ k. file ≡ get_or c.args.files.now k file) none c.loop-path-item.is) c.in-Err.ensures.text c.in-Err.ensures.plain

pub loop-path-preserved : goal.loop-path-preserved
loop-path-preserved g c =
    let old = c.loop-path.drafts.items in let new = c.add_draft.new.drafts.items in
    let count = c.loop-path.invariant.count in
    let file = c.loop-path-item.result in
    let more = c.in_default.ensures.draft in
    let asked_count : length (asked old) ≡ c.loop-path.path-index = length-map old asked_of ∙ count in
    let within : length (asked old) < length c.args.files.now = omega (arith, asked_count, c.loop-path-test.true) in
    record {
      count = sym (length-map new asked_of) ∙ ap length more ∙ length-append (asked old) _ ∙ ap (λ n. n + 1) asked_count;
      front = subst (IsFront c.args.tree.now c.args.files.now) (sym more)
          (front_next c.args.tree.now c.args.files.now (asked old) file c.loop-path.invariant.front within
          (subst (λ n. file ≡ get_or c.args.files.now n file) (sym asked_count) c.loop-path-item.is) c.in_default.ensures.text);
    }
