use Rattle.std.proofs.Common.{◌≡◌, ap, arith, length, sym}
use Rattle.std.proofs.lemmas.List.{take_more_same}
use Rattle.redo_book.proofs.WordLemmas.{bytes_differ, bytes_differ_at, same_taken}
use Rattle.redo_book.proofs.lines.are_same.Goals as goal

pub returns-then-text-word : goal.returns-then-text-word
returns-then-text-word c =
    sym (bytes_differ c.args.text.now c.args.word.now (λ e.
    let sizes : length c.args.text.now ≡ length c.args.word.now = ap length e in
    absurd (omega arith)))

pub returns-then-text-at : goal.returns-then-text-at
returns-then-text-at c = sym (bytes_differ_at c.args.text.now c.args.word.now c.loop-at.at (λ e. absurd (omega arith)))

pub loop-at-preserved : goal.loop-at-preserved
loop-at-preserved c = take_more_same c.args.text.now c.args.word.now c.loop-at.at 0 (omega arith) (omega arith) c.loop-at.invariant (omega arith)

pub returns : goal.returns
returns c = sym (same_taken c.args.text.now c.args.word.now c.loop-at.at (omega arith) (omega arith) c.loop-at.invariant)
