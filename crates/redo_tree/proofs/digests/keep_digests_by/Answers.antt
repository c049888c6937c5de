use Rattle.std.proofs.Common.{◌<◌, subst}
use Rattle.std.proofs.lemmas.List.{ext_get_or}
use Rattle.redo_tree.specs.declared.entries.Entry.TheVariants.{Directory}
use Rattle.redo_tree.proofs.digests.keep_digests_by.Goals as goal

-- each entry is left as it was
pub returns : goal.returns
returns g c =
    let many = c.keep_digests_in.auto.entries in
    ext_get_or Directory _ _ many (λ i inside. c.keep_digests_in.ensures i Directory (subst (λ n. i < n) many inside))
