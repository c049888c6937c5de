-- Two runs of small scripts, computed.
use Rattle.std.specs.Prelude.{◌≡◌, ℕ, Bool, true, false, List, [], ◌∷◌, Option, Some, None, codes, refl}
use Rattle.std.specs.Prelude.{if◌then◌else◌}
use Rattle.redo_script.specs.Syntax.{byte, named_bare, Word, cat, write, change, create, always, Script, finish, simple}
use Rattle.redo_script.specs.Syntax.{loop}
use Rattle.redo_script.specs.Bytes.{is_plain}
use Rattle.redo_record.specs.declared.deps.Dep.{Dep}
use Rattle.redo_record.specs.declared.deps.DepKind.TheVariants as kinds
use Rattle.redo_record.specs.declared.outcome.Outcome.{Outcome}
use Rattle.redo_record.specs.declared.outcome.Outcome.TheVariants as outcomes
use Rattle.redo_record.specs.declared.outcome.Why.TheVariants as why
use Rattle.redo_record.specs.Answers.{Ask}
use Rattle.redo_step.specs.Path.{resolved}
use Rattle.redo_step.specs.Setting.{Setting}
use Rattle.redo_step.specs.Runs.{exited, faulted, stopped, goes, ends}
use Rattle.redo_step.specs.Statements.{meaning, run}
use Rattle.redo_step.proofs.AgreeingLemmas.{meaning_follows}
use Rattle.redo_step.proofs.FollowedLemmas.{agree-cons, agree-nil}
use Rattle.std.specs.Str.{bytes_eq}

abbrev word : List ℕ → Word
word [] = []
word (b ∷ bs) = byte b ∷ word bs

-- where a is a source or none, and where n is free or has a rule
abbrev tree_with : (a : Option (List ℕ)) (n_has_rule : Bool) → Setting
tree_with a n_has_rule = record {
  source = λ p. if bytes_eq p (codes "a") then a else None;
  is_directory = λ _. false;
  has_rule = λ p. n_has_rule;
  target = codes "t";
  directory = [];
  stands_for = λ _. codes "t";
  third = Some (codes "t.redo.tmp");
  limit = 100;
  bound = [];
}

abbrev answers : (a b : Option Outcome) → Ask
answers a b p = if bytes_eq p (codes "a") then a else if bytes_eq p (codes "b") then b else None

abbrev built : List ℕ → Option Outcome
built bytes = Some (outcomes.Built (Some bytes))

abbrev entry_a : Dep
entry_a = record { kind = kinds.Change; path = codes "a" }

abbrev entry_n : Dep
entry_n = record { kind = kinds.Create; path = codes "n" }

abbrev entry_b : Dep
entry_b = record { kind = kinds.Change; path = codes "b" }

abbrev entry_always : Dep
entry_always = record { kind = kinds.Always; path = [] }

-- redo-ifchange a; redo-ifcreate n; redo-always; for f in a b; do redo-ifchange $f; cat $f; done
abbrev script : Script
script =
    simple 1 (change (word (codes "a") ∷ []))
    (simple 2 (create (word (codes "n") ∷ []))
    (simple 3 always
    (loop 4 (codes "f") (word (codes "a") ∷ word (codes "b") ∷ [])
    (simple 5 (change ((named_bare (codes "f") ∷ []) ∷ []))
    (simple 6 (write (cat ((named_bare (codes "f") ∷ []) ∷ [])) None) finish))
    finish)))

abbrev first_tree : Setting
first_tree = tree_with (Some (codes "x")) false

abbrev second_tree : Setting
second_tree = tree_with None false

abbrev first_answers : Ask
first_answers = answers None (built (codes "y"))

abbrev second_answers : Ask
second_answers = answers (built (codes "x")) (built (codes "y"))

-- the first run: a is a source, b was built
first_run : meaning first_tree first_answers script ≡ goes
    (record { output = codes "xy"; third = None; entries = entry_a ∷ entry_n ∷ entry_always ∷ entry_b ∷ [] })
unfolding meaning run resolved is_plain
first_run = refl

-- the second: a was built with the same bytes, and so was b; the runs are one
second_run : meaning second_tree second_answers script ≡ meaning first_tree first_answers script
unfolding meaning run resolved is_plain
second_run = refl

-- so says the law, whose premises hold here
by_law : meaning second_tree second_answers script ≡ meaning first_tree first_answers script
unfolding meaning run resolved is_plain
by_law =
    (meaning_follows first_tree second_tree first_answers second_answers
    (record { target = refl; directory = refl; stands_for = refl; third = refl; limit = refl; bound = refl })
    script).same 0 refl
    (agree-cons _ _ _ _ entry_a (entry_n ∷ entry_always ∷ entry_b ∷ []) (Some (codes "x"), refl, refl)
    (agree-cons _ _ _ _ entry_n (entry_always ∷ entry_b ∷ [])
    (record { no_source = refl; no_directory = refl; no_rule = refl })
    (agree-cons _ _ _ _ entry_always (entry_b ∷ []) tt
    (agree-cons _ _ _ _ entry_b [] (Some (codes "y"), refl, refl) (agree-nil _ _ _ _)))))

-- b lacks its answer: it is declared all the same
stopped_at_b : meaning first_tree (answers None None) script ≡ ends (stopped (codes "b" ∷ []))
    (record { output = codes "x"; third = None; entries = entry_a ∷ entry_n ∷ entry_always ∷ entry_b ∷ [] })
unfolding meaning run resolved is_plain
stopped_at_b = refl

-- a differs, and b stands behind it: the second run needn't come to b
ended_before_b : meaning second_tree (answers (Some (outcomes.Built None)) (built (codes "y"))) script ≡ ends (exited 1)
    (record { output = []; third = None; entries = entry_a ∷ entry_n ∷ entry_always ∷ [] })
unfolding meaning run resolved is_plain
ended_before_b = refl

-- n has a rule now: an operand of redo-ifcreate, unlike one of redo-ifchange, isn't declared where it isn't free
not_declared : meaning (tree_with (Some (codes "x")) true) first_answers script ≡ ends (faulted (why.Buildable 2))
    (record { output = []; third = None; entries = entry_a ∷ [] })
unfolding meaning run resolved is_plain
not_declared = refl
