use Rattle.std.proofs.lemmas.List.Elements.{All-contains}
use Rattle.redo_past.proofs.ItemLemmas.{item-contained}
use Rattle.redo_recover.specs.Steps.{IsToStore}
use Rattle.redo_recover.proofs.ClearedLemmas.{front-mends}
use Rattle.redo_recover.proofs.StoreLemmas.{broken-off, finished, stage}
use Rattle.redo_recover.proofs.laws.each_step_is_a_stage.Goals as goal

pub returns-clause-clearing : goal.returns-clause-clearing
returns-clause-clearing c = λ over tree mended named is mends others by front rest cut now holds.
    front-mends over tree mended is mends others named by front rest cut now holds

pub returns-clause-storing : goal.returns-clause-storing
returns-clause-storing c = λ given result is start none free over listed tree is_tree mends others named by files to_store front rest cut now holds.
    stage given result is start none free listed over tree is_tree mends others named by files to_store front rest cut now holds

pub returns-clause-broken : goal.returns-clause-broken
returns-clause-broken c = λ given result is start none free listed files to_store now holds.
    broken-off given result is start none free listed files
    (λ x m. All-contains (IsToStore given result is) files x to_store (item-contained files x m)) now holds

pub returns-clause-finished : goal.returns-clause-finished
returns-clause-finished c = λ given result is start none free listed files to_store now holds.
    finished given result is start none free listed files
    (λ x m. All-contains (IsToStore given result is) files x to_store (item-contained files x m)) now holds
