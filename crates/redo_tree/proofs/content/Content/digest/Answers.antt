use Rattle.std.proofs.Common.{◌≡◌, rules, subst, sym}
use Rattle.sha2.specs.Sha256.{sha256}
use Rattle.redo_digest.specs.Digest.{IsDigest}
use Rattle.redo_digest.proofs.DigestLemmas.{digest_of_content}
use Rattle.redo_tree.proofs.content.Content.digest.Goals as goal

pub returns-in-Some-clause-digest : goal.returns-in-Some-clause-digest
returns-in-Some-clause-digest c =
    let kept : c.in-Some.digest ≡ sha256 c.args.self.now = search rules in
    subst IsDigest (sym kept) (digest_of_content c.args.self.now)
