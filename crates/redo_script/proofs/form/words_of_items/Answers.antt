use Rattle.std.proofs.Common.{rules}
use Rattle.redo_script.proofs.StatementLemmas.{words_next}
use Rattle.redo_script.proofs.form.words_of_items.Goals as goal

pub loop-place-preserved : goal.loop-place-preserved
loop-place-preserved c =
    let more = words_next c.args.items.now.items c.loop-place.place-items c.loop-place.place-index c.replace-item.result c.replace-item.new.dest c.loop-place.words.items c.in_ok-into_word.field-0 (search rules) (search rules) (search rules) c.loop-place.invariant.0 c.loop-place.invariant.1 in
    rw c.in_ok-push.ensures.items more
