-- A small build with recorded entries, by the definitions: a target that is kept, and one whose script is begun late.
use Rattle.std.specs.Prelude.{◌≡◌, ℕ, true, false, is_some, if◌then◌else◌, List, [], ◌∷◌, Option, Some, None, bytes_eq}
use Rattle.std.specs.Prelude.{codes, refl}
use Rattle.redo_record.specs.Progress.{Progress, at_once}
use Rattle.redo_record.specs.declared.deps.Dep.{Dep}
use Rattle.redo_record.specs.declared.deps.DepKind.TheVariants.{Change}
use Rattle.redo_record.specs.declared.outcome.Outcome.{Outcome}
use Rattle.redo_record.specs.declared.outcome.Outcome.TheVariants.{Built}
use Rattle.redo_build.specs.Rules.{Rules}
use Rattle.redo_build.specs.Schedule.{Event, IsQuiet, opening, run}
use Rattle.redo_build.specs.Schedule.Event.{Take, Hand_in, Look}
use Rattle.redo_build.specs.Looking.{NoneDue, looked}
use Rattle.redo_build.specs.Takes.{takes}

abbrev on : List ℕ → Dep
on p = record { kind = Change; path = p }

abbrev made : Outcome
made = Built (Some (codes "x"))

-- the check of a recorded entry about `a`, which stands
abbrev kept : Option Outcome → Progress
kept None = record { outcome = None; deps = on (codes "a") ∷ [] }
kept (Some answer) = at_once made (on (codes "a") ∷ [])

-- the script of `b`, which asks for `c`
abbrev script : Option Outcome → Progress
script None = record { outcome = None; deps = on (codes "a") ∷ on (codes "c") ∷ [] }
script (Some answer) = at_once made (on (codes "a") ∷ on (codes "c") ∷ [])

-- the check of a recorded entry about `a`, which doesn't stand: then the script goes on
abbrev changed : Option Outcome → Option Outcome → Progress
changed None other = record { outcome = None; deps = on (codes "a") ∷ [] }
changed (Some answer) other = script other

-- `b` has a record, which holds still
abbrev holds : Rules
holds = record {
  is_source = λ p. false;
  has_rule = λ p. true;
  progress = λ p ask. if bytes_eq p (codes "b") then kept (ask (codes "a")) else at_once made [];
  begins = λ p ask. if bytes_eq p (codes "b") then false else true;
  recorded = λ p ask. [];
}

-- `b` has a record, which doesn't hold any more
abbrev falls : Rules
falls = record {
  is_source = λ p. false;
  has_rule = λ p. true;
  progress = λ p ask. if bytes_eq p (codes "b") then changed (ask (codes "a")) (ask (codes "c")) else at_once made [];
  begins = λ p ask. if bytes_eq p (codes "b") then is_some (ask (codes "a")) else true;
  recorded = λ p ask. [];
}

-- at the opening nothing may be taken
nothing_ready : (opening holds (codes "b" ∷ [])).ready ≡ []
nothing_ready = refl

-- one look asks for `a`, which may be taken
one_look : looked holds 1 (opening holds (codes "b" ∷ [])) ≡ record {
  entries =
      record { path = codes "b"; looks = 1; turn = 0; deps = on (codes "a") ∷ []; outcome = None; is_out = false }
      ∷ record { path = codes "a"; looks = 0; turn = 0; deps = []; outcome = None; is_out = false }
      ∷ [];
  ready = codes "a" ∷ [];
}
one_look = refl

then_none : NoneDue holds (looked holds 1 (opening holds (codes "b" ∷ [])))
then_none = refl

abbrev with_a : List Event
with_a = Look (codes "b") ∷ Take 0 ∷ Hand_in (codes "a") 0 ∷ []

-- with its answer the next look decides `b`, whose script is never begun
kept_state : looked holds 1 (run holds with_a (opening holds (codes "b" ∷ []))) ≡ record {
  entries =
      record { path = codes "b"; looks = 1; turn = 0; deps = on (codes "a") ∷ []; outcome = Some made; is_out = false }
      ∷ record { path = codes "a"; looks = 0; turn = 0; deps = []; outcome = Some made; is_out = false }
      ∷ [];
  ready = [];
}
kept_state = refl

never_begun : takes holds with_a (opening holds (codes "b" ∷ [])) ≡ (codes "a", 0) ∷ []
never_begun = refl

-- where the entry doesn't stand the script may be taken, at turn 0
late : run falls with_a (opening falls (codes "b" ∷ [])) ≡ record {
  entries =
      record { path = codes "b"; looks = 1; turn = 0; deps = on (codes "a") ∷ []; outcome = None; is_out = false }
      ∷ record { path = codes "a"; looks = 0; turn = 0; deps = []; outcome = Some made; is_out = false }
      ∷ [];
  ready = codes "b" ∷ [];
}
late = refl

late_none : NoneDue falls (run falls with_a (opening falls (codes "b" ∷ [])))
late_none = refl

abbrev to_the_end : List Event
to_the_end = Look (codes "b") ∷ Take 0 ∷ Hand_in (codes "a") 0 ∷ Take 0 ∷ Hand_in (codes "b") 0 ∷ Take 0
    ∷ Hand_in (codes "c") 0 ∷ Take 0 ∷ Hand_in (codes "b") 1 ∷ []

-- its turns are those of its script alone
its_turns : takes falls to_the_end (opening falls (codes "b" ∷ [])) ≡
    (codes "a", 0) ∷ (codes "b", 0) ∷ (codes "c", 0) ∷ (codes "b", 1) ∷ []
its_turns = refl

quiet_end : IsQuiet (run falls to_the_end (opening falls (codes "b" ∷ [])))
quiet_end = (refl, refl)
