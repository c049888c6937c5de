-- Entries whose operands have answers.
use Rattle.std.proofs.Common.{◌≡◌, true, false, ◌⊎◌, inl, inr, List, [], ◌∷◌}
use Rattle.std.proofs.lemmas.Bool.{cases_Bool}
use Rattle.redo_record.specs.declared.deps.DepKind.TheVariants as kinds
use Rattle.redo_record.specs.Paths.{Path}
use Rattle.redo_step.specs.Setting.{Setting}
use Rattle.redo_step.specs.Declaring.{lacks}
use Rattle.redo_record.specs.Answers.{Ask}
use Rattle.redo_record.specs.Entries.{is_entered, with_entry, with_entries}
use Rattle.redo_record.specs.declared.deps.Dep.{Dep}
use Rattle.redo_step.specs.Reach.{Keeps}
use Rattle.redo_step.specs.Begins.{AreKnown}
use Rattle.redo_step.proofs.StableLemmas.{AllAnswered, one_later}
use Rattle.redo_record.proofs.EntryLemmas.{AllEntered}
use Rattle.redo_record.proofs.FoundLemmas.{entered_cases}

module _ (setting : Setting) (ask : Ask) where
  pub known_change : (es : List Dep) (q : Path) → AreKnown setting ask es → lacks setting ask q ≡ false → AreKnown setting ask (with_entry es kinds.Change q)
  known_change es q known answered = record {
    known = λ p h. elim (entered_cases es kinds.Change kinds.Change q p h) [
      | inl old ↦ known.known p old
      | inr new ↦ let same : q ≡ p = new.1 in rw (← same) answered
    ];
  }

  pub known_changes : (es : List Dep) (ps : List Path) → AreKnown setting ask es → AllAnswered setting ask ps → AreKnown setting ask (with_entries es kinds.Change ps)
  known_changes es [] known h = known
  known_changes es (p ∷ ps) known h = known_changes (with_entry es kinds.Change p) ps (known_change es p known h.0) h.1

  pub known_create : (es : List Dep) (q : Path) → AreKnown setting ask es → AreKnown setting ask (with_entry es kinds.Create q)
  known_create es q known = record {
    known = λ p h. elim (entered_cases es kinds.Create kinds.Change q p h) [
      | inl old ↦ known.known p old
      | inr new ↦ let other : kinds.Create ≡ kinds.Change = new.0 in absurd cc
    ];
  }

  pub known_creates : (es : List Dep) (ps : List Path) → AreKnown setting ask es → AreKnown setting ask (with_entries es kinds.Create ps)
  known_creates es [] known = known
  known_creates es (p ∷ ps) known = known_creates (with_entry es kinds.Create p) ps (known_create es p known)

  pub known_always : (es : List Dep) (q : Path) → AreKnown setting ask es → AreKnown setting ask (with_entry es kinds.Always q)
  known_always es q known = record {
    known = λ p h. elim (entered_cases es kinds.Always kinds.Change q p h) [
      | inl old ↦ known.known p old
      | inr new ↦ let other : kinds.Always ≡ kinds.Change = new.0 in absurd cc
    ];
  }

  -- all have answers, or one lacks its own
  pub answered_or : (es : List Dep) (ps : List Path) → AllEntered es kinds.Change ps → AllAnswered setting ask ps ⊎ ((p : Path) × (is_entered es kinds.Change p ≡ true) × (lacks setting ask p ≡ true))
  answered_or es [] h = inl tt
  answered_or es (p ∷ ps) h = elim (cases_Bool (lacks setting ask p)) [
    | inl t ↦ inr (p, h.0, t)
    | inr f ↦ elim (answered_or es ps h.1) [ inl rest ↦ inl (f, rest) | inr found ↦ inr found ]
  ]

pub known_later : (setting : Setting) (ask later : Ask) (es : List Dep) → Keeps setting es ask later → AreKnown setting ask es → AreKnown setting later es
known_later setting ask later es k known = record { known = λ p h. (one_later (setting.source p) (ask p) (later p) (known.known p h) (λ a n e. k.same p a n h e)).0 }
