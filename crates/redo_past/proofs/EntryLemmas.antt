-- The entries of a record as a book has them stand once each.
use Rattle.std.proofs.Common.{◌≡◌, Bool, true, false, ◌&&◌, ◌||◌, ℕ, List, [], ◌∷◌, refl, sym, ap}
use Rattle.std.proofs.Common.{cond, map, ◌∙◌}
use Rattle.std.specs.List.{AllByRecursion, IsDistinct}
use Rattle.std.specs.Str.{bytes_eq}
use Rattle.redo_digest.specs.Digest.{State}
use Rattle.redo_path.proofs.ApartLemmas.{apart}
use Rattle.redo_record.specs.declared.deps.Dep.{Dep}
use Rattle.redo_record.specs.declared.deps.DepKind.{DepKind}
use Rattle.redo_record.specs.declared.deps.DepKind.TheVariants as kinds
use Rattle.redo_record.specs.Entries.{AreOnce, is_entered, same_kind}
use Rattle.redo_book.specs.declared.book.BookEntry.{BookEntry}
use Rattle.redo_book.specs.Book.{same_entry}
use Rattle.redo_book.specs.Noted.{entry_as, is_notable, is_top}
use Rattle.redo_past.specs.NewBook.{notable, state_after}
use Rattle.redo_past.specs.inside.Books.{StatesView, noted_in}

the-top : (path : List ℕ) → is_top path ≡ true → path ≡ []
the-top [] h = refl
the-top (byte ∷ bytes) h = apart cc

neither : (a b : Bool) → (a || b) ≡ false → (a ≡ false) × (b ≡ false)
neither true b h = apart cc
neither false b h = (refl, h)

module _ (states : StatesView) where
  abbrev known : List ℕ → State
  known = state_after states.sources states.rows

  abbrev entry : Dep → BookEntry
  entry d = entry_as known d.kind d.path

  -- entries of two kinds or paths are two
  apart-entries : (j k : DepKind) (p q : List ℕ) → is_notable j p ≡ true → is_notable k q ≡ true → (same_kind j k && bytes_eq p q) ≡ false → same_entry (entry_as known j p) (entry_as known k q) ≡ false
  apart-entries kinds.Change kinds.Change p q jp kq h = h
  apart-entries kinds.Create kinds.Create p q jp kq h = h
  apart-entries kinds.Change kinds.Create p q jp kq h = refl
  apart-entries kinds.Create kinds.Change p q jp kq h = refl
  apart-entries kinds.Always kinds.Always p q jp kq h =
      let bad : true ≡ false = sym (ap (λ r. bytes_eq r []) (the-top p jp) ∙ refl) ∙ sym (ap (bytes_eq p) (the-top q kq)) ∙ h in
      apart cc
  apart-entries kinds.Always kinds.Change p q jp kq h = refl
  apart-entries kinds.Always kinds.Create p q jp kq h = refl
  apart-entries kinds.Change kinds.Always p q jp kq h = refl
  apart-entries kinds.Create kinds.Always p q jp kq h = refl

  none-again : (d : Dep) (ds : List Dep) → is_notable d.kind d.path ≡ true → is_entered ds d.kind d.path ≡ false → AllByRecursion (λ y. same_entry (entry d) y ≡ false) (noted_in states ds)
  none-again d [] can h = tt
  none-again d (e ∷ ds) can h =
      let parts = neither (same_kind d.kind e.kind && bytes_eq d.path e.path) (is_entered ds d.kind d.path) h in
      (elim (is_notable e.kind e.path) as (λ b. is_notable e.kind e.path ≡ b → AllByRecursion (λ y. same_entry (entry d) y ≡ false) (map entry (cond b (e ∷ notable ds) (notable ds)))) [
        | false ↦ λ no. none-again d ds can parts.1
        | true ↦ λ yes. (apart-entries d.kind e.kind d.path e.path can yes parts.0, none-again d ds can parts.1)
      ]) refl

  pub noted-once : (ds : List Dep) → AreOnce ds → IsDistinct same_entry (noted_in states ds)
  unfolding IsDistinct
  noted-once [] h = tt
  noted-once (d ∷ ds) h =
      (elim (is_notable d.kind d.path) as (λ b. is_notable d.kind d.path ≡ b → IsDistinct same_entry (map entry (cond b (d ∷ notable ds) (notable ds)))) [
        | false ↦ λ no. noted-once ds h.1
        | true ↦ λ yes. (none-again d ds yes h.0, noted-once ds h.1)
      ]) refl
