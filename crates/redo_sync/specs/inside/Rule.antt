-- What the source and the takers of a relay know, and the invariant that ties it to what the queue holds.
use Rattle.std.specs.Prelude.{◌≡◌, ℕ, ◌+◌, ◌-◌, List, [], length, Bool}
use Rattle.std.specs.List.{count_by, sum_by}
use mathlib.Core.Option.{some}
use lib.ListN.{get_elem?}
use Rattle.redo_sync.specs.declared.rule.Hand.{Hand}
use Rattle.redo_sync.specs.Relay.{Pair}

-- a hand with this many of the parts that together know the whole, and these numbers
abbrev pub hand : ℕ → List Pair → List Pair → List Pair → Hand
hand parts given taken left = record { parts = parts; given = given; taken = taken; left = left }

-- a hand without a part has no numbers
abbrev pub Idle : Hand → Type 0
Idle v = v.parts ≡ 0 → (v.given ≡ []) × (v.taken ≡ []) × (v.left ≡ [])

abbrev pub EachIdle : List Hand → Type 0
EachIdle hands = (port : ℕ) (v : Hand) → get_elem? hands port ≡ some v → Idle v

-- how many jobs the hand with all parts has yet to find
abbrev pub pending : Hand → ℕ
pending v = length v.given - (length v.taken + length v.left)

-- What was given is what was taken, what was found left and what is in the queue, over all hands. There are 66 parts:
-- one for each of at most 65 takers, and at least one for the source.
abbrev pub Balanced : {T : Type 0} → (T → Pair) → List T → List Hand → Type 0
Balanced pair items hands =
    (sum_by (λ v. v.parts) hands ≡ 66)
    × ((p : Pair → Bool)
    → sum_by (λ v. count_by p v.given) hands
    ≡ (sum_by (λ v. count_by p v.taken) hands + sum_by (λ v. count_by p v.left) hands)
    + count_by (λ x. p (pair x)) items)
    × EachIdle hands
