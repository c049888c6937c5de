use Rattle.std.proofs.Common.{inl, inr}
use Rattle.redo_mend.proofs.SaidLemmas.{all-recovered, from-both}
use Rattle.redo_rules.specs.TreeSources.{IsTrueOfTrees}
use Rattle.redo_recover.proofs.laws.recovered_books_are_true.Goals as goal

pub returns-clause-from : goal.returns-clause-from
returns-clause-from c = λ tree journal old p r e. from-both tree journal old p r e

pub returns-clause-skip : goal.returns-clause-skip
returns-clause-skip c = λ tree journal old here there p r e. elim (from-both tree journal old p r e) [ inl j ↦ here p r j | inr o ↦ there p r o ]

pub returns-clause-trees : goal.returns-clause-trees
returns-clause-trees c = λ n tree journal old here there p r e. elim (from-both tree journal old p r e) [ inl j ↦ here p r j | inr o ↦ there p r o ]

pub returns-clause-all : goal.returns-clause-all
returns-clause-all c = λ n tree journal old book is here there. all-recovered (IsTrueOfTrees n) tree journal old book is here there
