use Rattle.std.proofs.Common.{◌≡◌, ◌∙◌, ◌*◌, Option, Some, None, ap, length, refl, sym, true, false}
use Rattle.std.specs.Prelude.{is_some}
use Rattle.hex.specs.Hex.{lower_digits}
use Rattle.hex.proofs.HexLemmas.{length-encode_with}
use Rattle.redo_path.proofs.ApartLemmas.{apart}
use Rattle.redo_digest.specs.Digest.{IsState, State}
use Rattle.redo_book.specs.Book.{state_text}
use Rattle.redo_book.proofs.sizes.state_size.Goals as goal

of-file : (state : State) → IsState state → is_some state ≡ true → 64 ≡ length (state_text state)
of-file None h e = apart cc
of-file (Some digest) h e = sym (length-encode_with lower_digits digest ∙ ap (λ n. 2 * n) h.size)

of-none : (state : State) → IsState state → is_some state ≡ false → 4 ≡ length (state_text state)
of-none None h e = refl
of-none (Some digest) h e = apart cc

pub returns-then-has_file-clause-size : goal.returns-then-has_file-clause-size
returns-then-has_file-clause-size c = λ state is told. of-file state is (told ∙ c.if-has_file.true)

pub returns-else-has_file-clause-size : goal.returns-else-has_file-clause-size
returns-else-has_file-clause-size c = λ state is told. of-none state is (told ∙ c.if-has_file.false)
