use Rattle.std.proofs.Common.{◌≡◌, ◌∙◌, rules, sym}
use Rattle.std.specs.Option.{option_eq}
use Rattle.std.specs.Str.{bytes_eq}
use Rattle.redo_digest.specs.Digest.{state_of}
use Rattle.redo_tree.specs.Tree.{file_at}
use Rattle.redo_ood.proofs.ItemLemmas.{altered-item, checked-item, requested-item}
use Rattle.redo_ood.proofs.items.target_item.Goals as goal

pub returns-then-contains : goal.returns-then-contains
returns-then-contains c = λ request limits same.
    requested-item c.args.past.now request limits c.args.state.now c.args.path.now c.requires.source c.requires.script
    c.requires.rule (sym (same c.args.path.now) ∙ sym c.contains.ensures ∙ c.if-contains.true)

pub returns-in-Some : goal.returns-in-Some
returns-in-Some c = λ request limits same.
    let past = c.args.past.now in
    let told : c.has_state.result ≡ option_eq bytes_eq (state_of (file_at past.tree c.args.path.now)) c.args.state.now = search rules in
    checked-item past request limits c.args.state.now c.args.path.now c.requires.source c.requires.script c.requires.rule
    (sym (same c.args.path.now) ∙ sym c.contains.ensures ∙ c.if-contains.false) c.in-Some.number c.in-Some.ensures.found
    c.in-Some.ensures.within c.has_state.result told

pub returns-in-None : goal.returns-in-None
returns-in-None c = λ request limits same.
    altered-item c.args.past.now request limits c.args.state.now c.args.path.now c.requires.source c.requires.script
    c.requires.rule (sym (same c.args.path.now) ∙ sym c.contains.ensures ∙ c.if-contains.false) c.in-None.ensures.found
