-- Laws of runs.
use Rattle.std.proofs.Common.{ℕ, List, refl, ap, ◌∙◌}
use Rattle.redo_record.specs.declared.deps.DepKind.TheVariants as kinds
use Rattle.redo_step.specs.Setting.{Setting, with_value}
use Rattle.redo_step.specs.Runs.{State}
use Rattle.redo_step.specs.Statements.{then_run}
use Rattle.redo_record.specs.Answers.{Ask}
use Rattle.redo_record.specs.Entries.{Extends}
use Rattle.redo_record.specs.declared.deps.Dep.{Dep}
use Rattle.redo_step.specs.Place.{Rest, and_then}
use Rattle.redo_step.specs.Reach.{Keeps, Reaches}
use Rattle.redo_record.proofs.EntryLemmas.{Extends-refl, Extends-trans}

pub Keeps-refl : (setting : Setting) (es : List Dep) (ask : Ask) → Keeps setting es ask ask
Keeps-refl setting es ask = record { same = λ p a n h e. e }

pub Keeps-extends : (setting : Setting) (a b : List Dep) (ask later : Ask) → Extends a b → Keeps setting b ask later → Keeps setting a ask later
Keeps-extends setting a b ask later x k = record { same = λ p an n h e. k.same p an n (x.still kinds.Change p h) e }

pub Reaches-refl : (setting : Setting) (ask : Ask) (rest : Rest) (s : State) → Reaches setting ask rest s rest s
Reaches-refl setting ask rest s = record { extends = Extends-refl s.entries; same = λ later k. refl }

pub Reaches-trans : (setting : Setting) (ask : Ask) (a b c : Rest) (s t u : State) → Reaches setting ask a s b t → Reaches setting ask b t c u → Reaches setting ask a s c u
Reaches-trans setting ask a b c s t u x y = record {
  extends = Extends-trans s.entries t.entries u.entries x.extends y.extends;
  same = λ later k. x.same later (Keeps-extends setting t.entries u.entries ask later y.extends k) ∙ y.same later k;
}

-- inside a part, and what comes behind it
pub Reaches-and_then : (setting : Setting) (ask : Ask) (a b more : Rest) (s t : State) → Reaches setting ask a s b t → Reaches setting ask (and_then a more) s (and_then b more) t
Reaches-and_then setting ask a b more s t x = record {
  extends = x.extends;
  same = λ later k. ap (λ r. then_run r (more later)) (x.same later k);
}

-- a turn of a loop is run in the same tree

pub Keeps-turn : (setting : Setting) (name value : List ℕ) (es : List Dep) (ask later : Ask) → Keeps setting es ask later → Keeps (with_value setting name value) es ask later
Keeps-turn setting name value es ask later k = record { same = λ p a n h e. k.same p a n h e }

pub Reaches-turn : (setting : Setting) (name value : List ℕ) (ask : Ask) (a b : Rest) (s t : State) → Reaches (with_value setting name value) ask a s b t → Reaches setting ask a s b t
Reaches-turn setting name value ask a b s t x = record {
  extends = x.extends;
  same = λ later k. x.same later (Keeps-turn setting name value t.entries ask later k);
}
