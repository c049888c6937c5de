use Rattle.std.proofs.Common.{subst}
use Rattle.std.specs.Prelude.{IfNone, IfSome}
use Rattle.redo_book.specs.Book.{record_of}
use Rattle.redo_rules.specs.Build.{sources_for}
use Rattle.redo_core.specs.inside.Checking.{FallsBehind, IsInCheck, IsWalkedTo}
use Rattle.redo_core.proofs.CheckSteps.{check-due, check-falls, check-none, in-check}
use Rattle.std.proofs.lemmas.Option.{slice_get_within}
use Rattle.redo_core.proofs.check.Check.of.Goals as goal

pub returns-in_default-clause-none : goal.returns-in_default-clause-none
returns-in_default-clause-none c = check-none c.args.given.now c.args.target.now c.requires c.in_default.ensures

pub record_of-requires : goal.record_of-requires
record_of-requires c = let k = c.in-Some.ensures in slice_get_within c.args.given.now.past.book c.in-Some.number k.made k.there

pub returns-in_default-2-clause-none : goal.returns-in_default-2-clause-none
returns-in_default-2-clause-none c =
    let given = c.args.given.now in
    let p = c.args.target.now in
    let n = c.in-Some.number in
    let k : IsInCheck given p n = in-check given p n (record_of c.record_of.result.now) c.in-Some.ensures c.record_of.ensures.there c.record_of.ensures.is_record in
    check-falls given p n k (subst (λ es. FallsBehind (sources_for given) es 0) c.deref.ensures.value
    (subst (λ o. IfNone o (FallsBehind (sources_for given) c.deref.result.now 0)) c.in_default-2.is c.in_ok-stood.ensures.falls))

pub returns-clause-due : goal.returns-clause-due
returns-clause-due c =
    let given = c.args.given.now in
    let p = c.args.target.now in
    let n = c.in-Some.number in
    let k : IsInCheck given p n = in-check given p n (record_of c.record_of.result.now) c.in-Some.ensures c.record_of.ensures.there c.record_of.ensures.is_record in (
      c.new.ensures,
      check-due given p (record { number = n; stood = c.in-Some-2.stood; asked = c.new.result }) k
          (subst (λ es. IsWalkedTo (sources_for given) es 0 c.in-Some-2.stood) c.deref.ensures.value
          (subst (λ o. IfSome o (IsWalkedTo (sources_for given) c.deref.result.now 0)) c.in-Some-2.is c.in_ok-stood.ensures.walked)) c.new.ensures,
    )
