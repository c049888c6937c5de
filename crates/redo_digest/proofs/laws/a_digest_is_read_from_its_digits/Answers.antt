use Rattle.redo_digest.proofs.SpellingLemmas.{digest_is, spelled_is}
use Rattle.redo_digest.proofs.laws.a_digest_is_read_from_its_digits.Goals as goal

pub returns : goal.returns
returns c = λ word digest. (digest_is word digest, spelled_is word digest)
