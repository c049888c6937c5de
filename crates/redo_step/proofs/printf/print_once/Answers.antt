use Rattle.std.proofs.Common.{◌≡◌, ◌+◌, [], ◌∷◌, drop, arith}
use Rattle.redo_step.specs.declared.printf.FormatPart.TheVariants.{Literal, Operand}
use Rattle.redo_step.proofs.RoundLemmas.{drop_at, drop_split, drop_end, round_literal, round_operand, round_none}
use Rattle.redo_step.proofs.printf.print_once.Goals as goal
use Rattle.redo_step.proofs.printf.print_once.Goals.{in-Literal+in_ok-add-in-Literal}
use Rattle.redo_step.proofs.printf.print_once.Goals.{in-Operand+then-printed-texts+in_ok-add-in-Operand}
use Rattle.redo_step.proofs.printf.print_once.Goals.{in-Operand+else-printed-texts}

pub loop-piece-preserved : goal.loop-piece-preserved
loop-piece-preserved c = elim c.match-piece.branch [
  | in-Literal+in_ok-add-in-Literal w ↦
      let split : drop c.loop-piece.piece-index c.args.pieces.now ≡ Literal w.in-Literal.byte ∷ drop (c.loop-piece.piece-index + 1) c.args.pieces.now = drop_at c.args.pieces.now c.loop-piece.piece-index _ _ c.loop-piece-test.true w.in-Literal.is in
      let before = rw split at c.loop-piece.invariant.round in
      rw (w.sink-is, w.printed-is) (record {
        within = c.loop-piece.invariant.within;
        round = round_literal _ _ _ _ _ _ _ before w.in_ok-add-in-Literal.ensures;
      })
  | in-Operand+then-printed-texts+in_ok-add-in-Operand w ↦
      let split : drop c.loop-piece.piece-index c.args.pieces.now ≡ Operand ∷ drop (c.loop-piece.piece-index + 1) c.args.pieces.now = drop_at c.args.pieces.now c.loop-piece.piece-index _ _ c.loop-piece-test.true w.in-Operand.is in
      let text : drop c.loop-piece.printed c.args.texts.now ≡ w.index-texts-printed.result ∷ drop (c.loop-piece.printed + 1) c.args.texts.now = drop_split c.args.texts.now c.loop-piece.printed w.index-texts-printed.result w.if-printed-texts.true w.index-texts-printed.is in
      let before = rw (split, text) at c.loop-piece.invariant.round in
      let adds = rw w.bytes.ensures at w.in_ok-add-in-Operand.ensures in
      rw (w.sink-is, w.printed-is) (record {
        within = omega arith;
        round = round_operand w.index-texts-printed.result (drop (c.loop-piece.printed + 1) c.args.texts.now) _ _ _ _ _ before adds;
      })
  | in-Operand+else-printed-texts w ↦
      let split : drop c.loop-piece.piece-index c.args.pieces.now ≡ Operand ∷ drop (c.loop-piece.piece-index + 1) c.args.pieces.now = drop_at c.args.pieces.now c.loop-piece.piece-index _ _ c.loop-piece-test.true w.in-Operand.is in
      let none : drop c.loop-piece.printed c.args.texts.now ≡ [] = drop_end c.args.texts.now c.loop-piece.printed w.if-printed-texts.false in
      let before = rw (split, none) at c.loop-piece.invariant.round in
      rw (w.sink-is, w.printed-is) (record {
        within = c.loop-piece.invariant.within;
        round = rw none (round_none _ _ _ _ before);
      })
]
