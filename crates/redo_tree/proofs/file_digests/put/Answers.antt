use Rattle.std.proofs.Common.{◌≡◌, ◌∙◌, ℕ, List, Some, ap, sym}
use Rattle.redo_digest.specs.Digest.{state_of}
use Rattle.redo_tree.specs.declared.entries.Entry.{Entry}
use Rattle.redo_tree.specs.Tree.{bytes_of, node_of}
use Rattle.redo_tree.proofs.FileDigestLemmas.{one-more}
use Rattle.redo_tree.proofs.file_digests.put.Goals as goal

pub returns-in_default-File : goal.returns-in_default-File
returns-in_default-File c =
    let e : List ℕ × Entry = (c.at.result.0.now, c.at.result.1.now) in
    let there = c.at.ensures.pair ∙ ap (λ (entry : Entry). Some (c.at.result.0.now, entry)) c.in_default-File.is-1 in
    let is : state_of (bytes_of (node_of e.1)) ≡ Some c.args.digest =
    ap (λ entry. state_of (bytes_of (node_of entry))) c.in_default-File.is-1 ∙ ap Some (sym (c.requires.digest _ _ there)) in
    one-more c.args.entries.now c.args.made.now c.args.number c.args.digest e c.requires.made c.at.ensures.pair is
