use Rattle.std.proofs.Common.{◌≡◌, ◌≤◌, ◌-◌, ◌∙◌, ◌++◌, ap, rules, length}
use Rattle.std.specs.Prelude.{Err}
use Rattle.redo_dir.specs.inside.Batches.{Refusals, fault_at}
use Rattle.redo_dir.proofs.FrontLemmas.{all_puts, all_texts, more_stored, nothing_yet, puts_before, some_stops, texts_before, told_before}
use Rattle.redo_dir.proofs.FrontLemmas.{front_length}
use Rattle.redo_dir.proofs.storing.store_files.Goals as goal

pub loop-stored-init : goal.loop-stored-init
loop-stored-init g c = (nothing_yet c.args.tree.now c.args.files.now (g.D.WorkDir.done c.args.dir.now), search rules)

pub returns-in-Err-clause-text : goal.returns-in-Err-clause-text
returns-in-Err-clause-text g c =
    let told : Refusals = λ path kind. (d : g.row.D.Denot) × g.D.DirView.refuses d path kind in
    let tree = c.args.tree.now in let files = c.args.files.now in let stored = g.D.WorkDir.done in
    let before = stored c.args.dir.now in let old = stored c.loop-stored.dir in let new = stored c.store_front-outcome.new.dir in
    let some = c.front_of-front.result.now in let fault = c.in-Err.fault in
    let so = c.loop-stored.invariant in
    let went = c.in-Err.ensures in
    let way = more_stored told tree files some before old new c.loop-stored.stored _ _ (Err fault) so.0 so.1 c.front_of-front.ensures.front went in
    let place : c.count.result - c.count-before.result ≡ length way.front = front_length before new _ _ way.front (search rules) (search rules) way.more in
    texts_before told tree files before new fault c.at.result way
    (some_stops told tree files some before old new c.loop-stored.stored _ _ fault so.0 so.1 c.front_of-front.ensures.front went)
    (c.at.ensures ∙ ap (fault_at fault) place)

pub returns-in-Err-clause-stored : goal.returns-in-Err-clause-stored
returns-in-Err-clause-stored g c =
    let told : Refusals = λ path kind. (d : g.row.D.Denot) × g.D.DirView.refuses d path kind in
    let tree = c.args.tree.now in let files = c.args.files.now in let stored = g.D.WorkDir.done in
    let before = stored c.args.dir.now in let old = stored c.loop-stored.dir in let new = stored c.store_front-outcome.new.dir in
    let some = c.front_of-front.result.now in let fault = c.in-Err.fault in
    let so = c.loop-stored.invariant in
    let way = more_stored told tree files some before old new c.loop-stored.stored _ _ (Err fault) so.0 so.1 c.front_of-front.ensures.front c.in-Err.ensures in
    let place : c.count.result - c.count-before.result ≡ length way.front = front_length before new _ _ way.front (search rules) (search rules) way.more in
    puts_before tree files before new fault c.at.result way (c.at.ensures ∙ ap (fault_at fault) place)

pub returns-in-Err-clause-refused : goal.returns-in-Err-clause-refused
returns-in-Err-clause-refused g c =
    let told : Refusals = λ path kind. (d : g.row.D.Denot) × g.D.DirView.refuses d path kind in
    let tree = c.args.tree.now in let files = c.args.files.now in let stored = g.D.WorkDir.done in
    let before = stored c.args.dir.now in let old = stored c.loop-stored.dir in let new = stored c.store_front-outcome.new.dir in
    let some = c.front_of-front.result.now in let fault = c.in-Err.fault in
    let so = c.loop-stored.invariant in
    let way = more_stored told tree files some before old new c.loop-stored.stored _ _ (Err fault) so.0 so.1 c.front_of-front.ensures.front c.in-Err.ensures in
    let place : c.count.result - c.count-before.result ≡ length way.front = front_length before new _ _ way.front (search rules) (search rules) way.more in
    told_before told files (length way.front) fault c.at.result
    (some_stops told tree files some before old new c.loop-stored.stored _ _ fault so.0 so.1 c.front_of-front.ensures.front c.in-Err.ensures)
    (c.at.ensures ∙ ap (fault_at fault) place)

pub loop-stored-preserved : goal.loop-stored-preserved
loop-stored-preserved g c =
    let told : Refusals = λ path kind. (d : g.row.D.Denot) × g.D.DirView.refuses d path kind in
    let tree = c.args.tree.now in let files = c.args.files.now in let stored = g.D.WorkDir.done in
    let before = stored c.args.dir.now in let old = stored c.loop-stored.dir in let new = stored c.store_front-outcome.new.dir in
    let so = c.loop-stored.invariant in
    let way = more_stored told tree files c.front_of-front.result.now before old new c.loop-stored.stored _ _ c.store_front-outcome.result so.0 so.1 c.front_of-front.ensures.front c.store_front-outcome.ensures in
    (way, front_length before new _ _ way.front (search rules) (search rules) way.more)

pub returns-clause-text : goal.returns-clause-text
returns-clause-text g c =
    let so = c.loop-stored.invariant in
    let all : length c.args.files.now ≤ length so.0.front = search rules in
    all_texts c.args.tree.now c.args.files.now so.0.front so.0.first all

pub returns-clause-stored : goal.returns-clause-stored
returns-clause-stored g c =
    let so = c.loop-stored.invariant in
    let all : length c.args.files.now ≤ length so.0.front = search rules in
    so.0.more ∙ ap (λ fs. g.D.WorkDir.done c.args.dir.now ++ fs) (all_puts c.args.tree.now c.args.files.now so.0.front so.0.first all)
