-- Small trees, built by the definitions.
use Rattle.std.specs.Prelude.{◌≡◌, ℕ, List, [], ◌∷◌, ◌++◌, Some, None, codes, refl}
use Rattle.redo_script.specs.Bytes.{is_plain}
use Rattle.redo_script.specs.Reading.{next_byte, at_end, read_on, tokens_of}
use Rattle.redo_script.specs.Parsing.{parse_on, statements_of}
use Rattle.redo_script.specs.Texts.{script_in}
use Rattle.redo_script.specs.declared.fault.Reason.TheVariants as reasons
use Rattle.redo_record.specs.declared.deps.DepKind.TheVariants.{Change, Create}
use Rattle.redo_record.specs.declared.outcome.Outcome.TheVariants.{Built, Failed, Cyclic}
use Rattle.redo_record.specs.declared.outcome.Why.TheVariants as why
use Rattle.redo_step.specs.Path.{resolved}
use Rattle.redo_step.specs.Statements.{meaning, run}
use Rattle.redo_step.specs.Setting.{setting_by}
use Rattle.redo_tree.specs.Tree.{Tree, Directory, File}
use Rattle.redo_build.specs.Rules.{Rules, asked_under}
use Rattle.redo_build.specs.Outcomes.{outcome_at, final_outcome, needed_at}
use Rattle.redo_build.specs.Schedule.{nothing_known}
use Rattle.redo_rules.specs.Build.{rules_of}

abbrev line : List ℕ → List ℕ
line bytes = bytes ++ 10 ∷ []

-- a joins b and the source c, b writes a line, and l and m ask for each other
abbrev tree : Tree
tree = ([], Directory)
    ∷ (codes "a.do", File (line (codes "redo-ifchange b c") ++ line (codes "cat b c")))
    ∷ (codes "b.do", File (line (codes "echo x")))
    ∷ (codes "c", File (line (codes "y")))
    ∷ (codes "d.do", File (line (codes "redo-ifchange e") ++ line (codes "echo never")))
    ∷ (codes "e.do", File (line (codes "redo-ifchange |")))
    ∷ (codes "l.do", File (line (codes "redo-ifchange m")))
    ∷ (codes "m.do", File (line (codes "redo-ifchange l")))
    ∷ []

abbrev rules : Rules
rules = rules_of tree (record { targets = 10; file_bytes = 1000 })

first_asks : rules.progress (codes "a") nothing_known ≡ record {
  outcome = None;
  deps = record { kind = Change; path = codes "a.do" } ∷ record { kind = Change; path = codes "b" } ∷ record { kind = Change; path = codes "c" } ∷ [];
}
unfolding script_in tokens_of read_on next_byte at_end statements_of parse_on is_plain meaning run resolved setting_by
first_asks = refl

asks_for_no_source : asked_under rules (codes "a") nothing_known ≡ codes "b" ∷ []
unfolding script_in tokens_of read_on next_byte at_end statements_of parse_on is_plain meaning run resolved setting_by
asks_for_no_source = refl

joined : outcome_at rules 2 (codes "a") ≡ Some (Built (Some (line (codes "x") ++ line (codes "y"))))
unfolding script_in tokens_of read_on next_byte at_end statements_of parse_on is_plain meaning run resolved setting_by
joined = refl

too_shallow : outcome_at rules 1 (codes "a") ≡ None
unfolding script_in tokens_of read_on next_byte at_end statements_of parse_on is_plain meaning run resolved setting_by
too_shallow = refl

refused : outcome_at rules 1 (codes "e") ≡ Some (Failed (why.Script (record { line = 1; why = reasons.Unsupported })))
unfolding script_in tokens_of read_on next_byte at_end statements_of parse_on is_plain meaning run resolved setting_by
refused = refl

depends : outcome_at rules 2 (codes "d") ≡ Some (Failed (why.Depends 1))
unfolding script_in tokens_of read_on next_byte at_end statements_of parse_on is_plain meaning run resolved setting_by
depends = refl

ring : final_outcome rules 3 (codes "l") ≡ Cyclic
unfolding script_in tokens_of read_on next_byte at_end statements_of parse_on is_plain meaning run resolved setting_by
ring = refl

needed : needed_at rules (codes "a" ∷ codes "c" ∷ codes "l" ∷ []) 4 ≡ codes "a" ∷ codes "l" ∷ codes "b" ∷ codes "m" ∷ []
unfolding script_in tokens_of read_on next_byte at_end statements_of parse_on is_plain meaning run resolved setting_by
needed = refl

no_rule : rules.progress (codes "q") nothing_known ≡ record {
  outcome = Some (Failed why.NoRule);
  deps = record { kind = Create; path = codes "q.do" } ∷ record { kind = Create; path = codes "default.do" } ∷ [];
}
unfolding script_in tokens_of read_on next_byte at_end statements_of parse_on is_plain meaning run resolved setting_by
no_rule = refl
