use Rattle.std.proofs.Common.{arith, ◌≡◌, ◌++◌, ◌∷◌, [], take, sym, ◌∙◌, ap, take-append-drop, append_assoc}
use Rattle.std.proofs.lemmas.Grind.{common_steps}
use Rattle.std.specs.List.{list_any, position_or_len}
use Rattle.redo_bundle.specs.Bundle.{is_newline}
use Rattle.redo_bundle.proofs.LineLemmas.{came-more, line_too_long, any-append, none_before, shows_beginning, shows_rest, upto_newline}
use Rattle.redo_bundle.proofs.reading.read_line.Goals as goal

pub returns-then-not-branch-clause-header : goal.returns-then-not-branch-clause-header
returns-then-not-branch-clause-header g c =
    let end = c.in_ok-fill.ensures.end (grind (arith, common_steps)) in
    shows_rest _ _ _ c.fill.new.self _ c.loop-held.invariant.came c.in_ok-fill.ensures.bytes end.0 end.1 c.loop-held.invariant.line.one

pub returns-then-end-len-clause-header : goal.returns-then-end-len-clause-header
returns-then-end-len-clause-header g c =
    shows_beginning _ _ _ c.fill.new.self _ c.loop-held.invariant.came c.in_ok-fill.ensures.bytes c.loop-held.invariant.line.one (let e = c.line_end-end.ensures in grind (arith, common_steps))

pub returns-then-end-len-clause-fault : goal.returns-then-end-len-clause-fault
returns-then-end-len-clause-fault g c =
    line_too_long _ _ _ c.fill.new.self _ _ c.loop-held.invariant.came c.in_ok-fill.ensures.bytes c.loop-held.invariant.line.one (let e = c.line_end-end.ensures in grind (arith, common_steps))

pub returns-then-end-size-clause-line : goal.returns-then-end-size-clause-line
returns-then-end-size-clause-line g c =
    let n = c.line_end-end.result in
    let held = c.fill.new.self in
    let grown : c.extend_from_slice.new.self.items ≡ c.loop-held.line.items ++ take n held = grind (arith, common_steps) in
    let at : n ≡ position_or_len is_newline held = grind (arith, common_steps) in
    record {
      one = ap (list_any is_newline) grown ∙ any-append is_newline c.loop-held.line.items (take n held) c.loop-held.invariant.line.one ∙ ap (λ k. list_any is_newline (take k held)) at ∙ none_before is_newline held;
      short = grind (arith, common_steps);
    }

pub returns-then-end-size-clause-bytes : goal.returns-then-end-size-clause-bytes
returns-then-end-size-clause-bytes g c =
    let n = c.line_end-end.result in
    let held = c.fill.new.self in
    let grown : c.extend_from_slice.new.self.items ≡ c.loop-held.line.items ++ take n held = grind (arith, common_steps) in
    let at : n ≡ position_or_len is_newline held = grind (arith, common_steps) in
    let inside = c.if-end-size.true in
    came-more _ _ _ held c.skip.new.self _ (take n held ++ 10 ∷ []) _ c.loop-held.invariant.came c.in_ok-fill.ensures.bytes (upto_newline held n at (grind (arith, common_steps)) ∙ ap (λ l. (take n held ++ 10 ∷ []) ++ l) (sym c.skip.ensures)) (ap (λ l. l ++ 10 ∷ []) grown ∙ append_assoc c.loop-held.line.items (take n held) (10 ∷ []))

pub loop-held-preserved : goal.loop-held-preserved
loop-held-preserved g c =
    let n = c.line_end-end.result in
    let held = c.fill.new.self in
    let grown : c.extend_from_slice.new.self.items ≡ c.loop-held.line.items ++ take n held = grind (arith, common_steps) in
    let at : n ≡ position_or_len is_newline held = grind (arith, common_steps) in
    record {
      works = grind (arith, common_steps);
      line = record {
        one = ap (list_any is_newline) grown ∙ any-append is_newline c.loop-held.line.items (take n held) c.loop-held.invariant.line.one ∙ ap (λ k. list_any is_newline (take k held)) at ∙ none_before is_newline held;
        short = grind (arith, common_steps);
      };
      came = came-more _ _ _ held c.skip-in-loop-held.new.self _ (take n held) _ c.loop-held.invariant.came c.in_ok-fill.ensures.bytes (sym (take-append-drop n held) ∙ ap (λ l. take n held ++ l) (sym c.skip-in-loop-held.ensures)) grown;
    }
