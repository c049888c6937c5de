use Rattle.std.proofs.Common.{◌∙◌, ap}
use Rattle.std.proofs.lemmas.Iterator.{items_from_collect}
use Rattle.std.proofs.lemmas.Iterator.Consumers.{YieldsList-from_rest}
use Rattle.std.proofs.lemmas.Result.{IfOk-weaker}
use Rattle.std.specs.Map.{keys_of}
use Rattle.std.specs.Prelude.{map}
use Rattle.redo_mend.proofs.OwnLemmas.{keys-seen}
use Rattle.redo_mend.proofs.own.paths_of.Goals as goal

pub returns : goal.returns
returns c =
    let entries = c.in_ok-in_order.field-0.entries in
    IfOk-weaker c.collect.result _ _
    (λ paths e. ap (map (λ path. path.now)) e ∙ keys-seen entries ∙ ap keys_of c.in_ok-in_order.ensures.entries)
    (items_from_collect c.collect.result c.collect.ensures.ran (YieldsList-from_rest (keys_of entries) c.into_keys.ensures.rest))
