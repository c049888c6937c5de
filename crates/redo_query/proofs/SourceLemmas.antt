-- The sources that records name.
use Rattle.std.proofs.Common.{◌≡◌, ◌∙◌, ◌++◌, List, [], ◌∷◌, ℕ, Bool, true, false, cond, ap, filter, map, Bor}
use Rattle.std.proofs.lemmas.List.{append-nil, map-append}
use Rattle.std.proofs.lemmas.List.Elements.{filter-append}
use Rattle.std.specs.Map.{keys_of}
use Rattle.redo_tree.specs.declared.entries.Entry.{Entry}
use Rattle.redo_tree.specs.Tree.{Node, Tree, node_of}

-- entries that are lent, as contracts see them
abbrev pub seen : List (Bor (List ℕ) × Bor Entry) → Tree
seen es = map (λ e. (e.0.now, node_of e.1.now)) es

module _ (p : List ℕ × Node → Bool) where
  -- an entry that passes the test comes behind the others
  pub put-in : (es : Tree) (e : List ℕ × Node) → p e ≡ true → keys_of (filter p (es ++ e ∷ [])) ≡ keys_of (filter p es) ++ e.0 ∷ []
  put-in es e h =
      ap keys_of (filter-append p es (e ∷ []) ∙ ap (λ b. filter p es ++ cond b (e ∷ []) []) h)
      ∙ map-append (λ x. x.0) (filter p es) (e ∷ [])

  -- one that doesn't is left out
  pub left-out : (es : Tree) (e : List ℕ × Node) → p e ≡ false → keys_of (filter p (es ++ e ∷ [])) ≡ keys_of (filter p es)
  left-out es e h = ap keys_of (filter-append p es (e ∷ []) ∙ ap (λ b. filter p es ++ cond b (e ∷ []) []) h ∙ append-nil (filter p es))
