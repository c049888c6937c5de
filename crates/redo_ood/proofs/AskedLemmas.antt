-- Which paths a run is asked about.
use Rattle.std.proofs.Common.{◌≡◌, ◌↔◌, ◌==◌, ℕ, true, false, List, [], ◌∷◌, arith, length, refl, subst, sym}
use Rattle.std.proofs.lemmas.Grind.{common_steps}
use Rattle.redo_names.specs.Paths.{IsAmong, is_among}
use Rattle.redo_names.proofs.PathLemmas.{among-told, told-among}
use Rattle.redo_book.specs.Book.{targets_of}
use Rattle.redo_rules.specs.Build.{GivenView}
use Rattle.redo_ood.specs.Listing.{IsAskedAbout, RestsOn}

pub none-asked : (request : List (List ℕ)) → (length request == 0) ≡ true → request ≡ []
none-asked [] empty = refl
none-asked (q ∷ qs) empty = absurd (let none : length (q ∷ qs) ≡ 0 = grind (arith, common_steps) in omega arith)

-- where nothing is requested the targets of the book
pub all-asked : (given : GivenView) → given.request ≡ [] → (asked : List (List ℕ)) → asked ≡ targets_of given.past.book →
    (p : List ℕ) → IsAmong asked p ↔ IsAskedAbout given given.request p
all-asked given none asked are p =
    subst (λ request. IsAmong asked p ↔ IsAskedAbout given request p) (sym none)
    (subst (λ ps. IsAmong ps p ↔ IsAmong (targets_of given.past.book) p) (sym are) (λ m. m, λ m. m))

by-request : (given : GivenView) (request : List (List ℕ)) → (length request == 0) ≡ false → (p : List ℕ) →
    IsAskedAbout given request p ↔ RestsOn given p
by-request given [] some p = absurd (let bad : true ≡ false = some in cc)
by-request given (q ∷ qs) some p = (λ on. on, λ on. on)

-- else what the request rests on
pub some-asked : (given : GivenView) → (length given.request == 0) ≡ false → (found asked : List (List ℕ)) →
    ((p : List ℕ) → (is_among found p ≡ true) ↔ RestsOn given p) → ((p : List ℕ) → IsAmong asked p ↔ IsAmong found p) →
    (p : List ℕ) → IsAmong asked p ↔ IsAskedAbout given given.request p
some-asked given some found asked rests same p =
    let by = by-request given given.request some p in (
      λ m. by.1 ((rests p).0 (told-among found p ((same p).0 m))),
      λ about. (same p).1 (among-told found p ((rests p).1 (by.0 about))),
    )
