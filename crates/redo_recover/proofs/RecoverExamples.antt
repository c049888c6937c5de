-- The definitions compute. A run was broken off: it had stored `a`, not `b`; then somebody changed `c`. It had built `d`
-- without a file, where one of an earlier run stays; the rule of `e` was gone, so the new book has no record of it; and
-- `f` is a source. Of the digests it is only said which are one.
use Rattle.std.proofs.Common.{◌≡◌, ℕ, Bool, true, false, List, [], ◌∷◌, Some, None, ap, refl, ◌∙◌}
use Rattle.std.specs.Str.{bytes_eq}
use Rattle.sha2.specs.Sha256.{sha256}
use Rattle.redo_digest.specs.Digest.{state_of}
use Rattle.redo_tree.specs.Tree.{Directory, File, Tree}
use Rattle.redo_book.specs.Book.{Record}
use Rattle.redo_past.specs.Past.{set_aside}
use Rattle.redo_which.specs.Candidates.{book_path, journal_path}
use Rattle.redo_dir.specs.Own.{is_own}
use Rattle.redo_mend.specs.Recovered.{recovered_at}
use Rattle.redo_mend.proofs.SaidLemmas.{recovered}

abbrev a : List ℕ
a = 97 ∷ []

abbrev b : List ℕ
b = 98 ∷ []

abbrev c : List ℕ
c = 99 ∷ []

abbrev d : List ℕ
d = 100 ∷ []

abbrev e : List ℕ
e = 101 ∷ []

abbrev f : List ℕ
f = 102 ∷ []

-- a record of a file with this byte, or of none
abbrev of_byte : List ℕ → ℕ → Record
of_byte p n = record { target = p; state = state_of (Some (n ∷ [])); entries = [] }

abbrev of_none : List ℕ → Record
of_none p = record { target = p; state = None; entries = [] }

-- the first run made files with the byte 1
abbrev old : List Record
old = of_byte a 1 ∷ of_byte b 1 ∷ of_byte c 1 ∷ of_byte d 1 ∷ of_byte e 1 ∷ []

-- the second with the byte 2
abbrev journal : List Record
journal = of_byte a 2 ∷ of_byte b 2 ∷ of_byte c 2 ∷ of_none d ∷ []

abbrev broken : Tree
broken =
    ([], Directory) ∷ (a, File (2 ∷ [])) ∷ (b, File (1 ∷ [])) ∷ (c, File (9 ∷ [])) ∷ (d, File (1 ∷ [])) ∷ (e, File (1 ∷ [])) ∷
    (f, File (1 ∷ [])) ∷ []

-- A third run makes `a` with the byte 3
abbrev third : List Record
third = of_byte a 3 ∷ of_byte b 3 ∷ of_none d ∷ []

-- whether the digests of two bytes are one
abbrev one : ℕ → ℕ → Bool
one n m = bytes_eq (sha256 (n ∷ [])) (sha256 (m ∷ []))

module _ (h11 : one 1 1 ≡ true) (h22 : one 2 2 ≡ true) (h12 : one 1 2 ≡ false) (h21 : one 2 1 ≡ false) (h91 : one 9 1 ≡ false) (h92 : one 9 2 ≡ false) (h23 : one 2 3 ≡ false) where
  recovers : recovered broken journal old ≡ of_byte a 2 ∷ of_byte b 1 ∷ of_byte d 1 ∷ of_byte e 1 ∷ []
  recovers = simp (h11, h22, h12, h21, h91, h92) refl

  -- so `c` and `f` are sources, as before
  aside : set_aside broken (recovered broken journal old) ≡ book_path ∷ a ∷ b ∷ d ∷ e ∷ []
  aside =
      let rest : set_aside broken (of_byte a 2 ∷ of_byte b 1 ∷ of_byte d 1 ∷ of_byte e 1 ∷ []) ≡ book_path ∷ a ∷ b ∷ d ∷ e ∷ [] = simp (h22, h11) refl in
      ap (set_aside broken) recovers ∙ rest

  -- with the old book alone `a` is taken for a source: what recovery repairs
  aside_before : set_aside broken old ≡ book_path ∷ b ∷ d ∷ e ∷ []
  aside_before = rw (h11, h21, h91) refl

  -- with the new book alone `b` and `e` are, and `d`
  aside_after : set_aside broken journal ≡ book_path ∷ a ∷ []
  aside_after = rw (h22, h12, h92) refl

  -- The third run is broken off before it stores `a`. Beside the recovered book its journal leaves `a` generated; beside
  -- the first book, which nobody replaced by the recovered one, `a` would be a source
  chained : recovered_at broken third (recovered broken journal old) a ≡ Some (of_byte a 2)
  chained = simp (h22, h12, h92, h23) refl

  unchained : recovered_at broken third old a ≡ None
  unchained = simp (h21, h23) refl

-- the journal is the program's own
own : is_own [] journal_path ≡ true
own = refl
