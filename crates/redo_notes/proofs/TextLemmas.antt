-- Pieces of text one behind another.
use Rattle.std.proofs.Common.{◌≡◌, ◌∙◌, ℕ, List, ◌++◌, ap, append_assoc}

-- what is said, a path and what is said behind it, as one piece
pub three-said : (text said p more : List ℕ) → text ++ said ++ p ++ more ≡ text ++ (said ++ p ++ more)
three-said text said p more =
    ap (λ l. l ++ more) (append_assoc text said p) ∙ append_assoc text (said ++ p) more
