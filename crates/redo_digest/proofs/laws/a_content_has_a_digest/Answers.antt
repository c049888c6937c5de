use Rattle.redo_digest.proofs.DigestLemmas.{digest_of_content}
use Rattle.redo_digest.proofs.laws.a_content_has_a_digest.Goals as goal

pub returns : goal.returns
returns c = digest_of_content
