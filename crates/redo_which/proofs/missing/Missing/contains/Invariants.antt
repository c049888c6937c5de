use Rattle.std.proofs.Common.{◌≡◌, map, take}
use Rattle.std.specs.Iterator.Adapters.{take_count, take_source}
use Rattle.std.specs.List.{list_any}
use Rattle.std.specs.Prelude.{bytes_eq}
use Rattle.redo_which.proofs.missing.Missing.contains.Given as goal

-- whether it is among those that are left
abbrev pub invariant-loop-other : goal.invariant-loop-other
invariant-loop-other l =
    list_any (λ other. bytes_eq l.path other) (map (λ p. p.do_file) (take (take_count l.other-iterator) (take_source l.other-iterator))) ≡ list_any (λ other. bytes_eq l.path other) l.self
