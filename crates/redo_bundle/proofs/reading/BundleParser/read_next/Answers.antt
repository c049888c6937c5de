use Rattle.std.proofs.Common.{arith, length, ◌≡◌, true, false, subst}
use Rattle.std.proofs.lemmas.Grind.{common_steps}
use Rattle.std.proofs.lemmas.Result.{err_from_is_err_and}
use Rattle.std.specs.Prelude.{codes, Err}
use Rattle.std.specs.Str.{bytes_eq}
use Rattle.std.specs.Io.KnownBytes.{prepend_known}
use Rattle.redo_bundle.specs.Bundle.{entry_fault}
use Rattle.redo_bundle.specs.inside.Steps.{Refuses}
use Rattle.redo_bundle.proofs.LineLemmas.{shows, shows_line}
use Rattle.redo_bundle.proofs.TurnLemmas.{behind_end, behind_line}
use Rattle.redo_bundle.proofs.reading.BundleParser.read_next.Goals as goal

pub returns-then-branch-clause-fault : goal.returns-then-branch-clause-fault
returns-then-branch-clause-fault g c =
    let line = c.read_line.new.line.items in
    let same : bytes_eq line (codes "end") ≡ true = grind (arith, common_steps) in
    rw c.number-number.ensures.number (behind_end (length c.args.self.now.tree) c.args.self.now.tree line c.fill.new.self _ _ _ c.in_ok-read_line.ensures.line same c.in_ok-read_line.ensures.bytes c.in_ok-fill.ensures.bytes (c.fill.ensures.more (grind (arith, common_steps))))

pub returns-in_err-read_entry-clause-fault : goal.returns-in_err-read_entry-clause-fault
returns-in_err-read_entry-clause-fault g c =
    let line = c.read_line.new.line.items in
    let other : bytes_eq line (codes "end") ≡ false = grind (arith, common_steps) in
    let p = err_from_is_err_and c.from_residual-in_err-read_entry.result c.from_residual-in_err-read_entry.ensures.1 in
    rw (p.1, p.2) (behind_line _ (length c.args.self.now.tree) c.args.self.now.tree line _ _ c.in_ok-read_line.ensures.line other c.in_ok-read_line.ensures.bytes (subst (λ l. Refuses {A = Unit {0}} (Err c.in_err-read_entry.field-0.0) (prepend_known c.read_line.new.held (g.R.ByteIn.left c.read_line.new.reader)) (entry_fault (length c.args.self.now.tree) c.args.self.now.tree l)) c.deref.ensures.value c.in_err-read_entry.ensures.fault))

pub returns-then-branch-clause-header : goal.returns-then-branch-clause-header
returns-then-branch-clause-header g c = shows_line _ _ c.read_line.new.line.items c.in_ok-read_line.ensures.line c.in_ok-read_line.ensures.bytes

pub returns-in_err-read_entry-clause-header : goal.returns-in_err-read_entry-clause-header
returns-in_err-read_entry-clause-header g c =
    let p = err_from_is_err_and c.from_residual-in_err-read_entry.result c.from_residual-in_err-read_entry.ensures.1 in
    rw p.1 (shows _ _ c.read_line.new.line.items (shows_line _ _ c.read_line.new.line.items c.in_ok-read_line.ensures.line c.in_ok-read_line.ensures.bytes))
