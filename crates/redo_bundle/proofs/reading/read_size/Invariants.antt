use Rattle.std.proofs.Common.{◌≡◌, ◌≤◌, ◌-◌, ◌+◌, ◌*◌, ◌^◌, take}
use Rattle.std.specs.Prelude.{fold}
use Rattle.redo_bundle.proofs.reading.read_size.Given as goal

-- the number that the digits so far spell
abbrev pub invariant-loop-digit : goal.invariant-loop-digit
invariant-loop-digit l = record {
  number : l.sum ≡ fold (λ sum digit. 10 * sum + (digit - 48)) 0 (take l.digit-index l.digits);
  small : l.sum ≤ 2 ^ 30;
}
