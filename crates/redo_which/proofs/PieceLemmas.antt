-- The pieces of a candidate, put together.
use Rattle.std.proofs.Common.{◌≡◌, ℕ, Bool, true, false, cond, List, [], ◌∷◌, ◌++◌, ◌&&◌, length, codes, refl, sym, ap}
use Rattle.std.proofs.Common.{◌∙◌, arith, nat_lt, append_assoc}
use Rattle.std.proofs.lemmas.Grind.{common_steps}
use Rattle.std.specs.List.{AllByRecursion}
use Rattle.std.specs.Prelude.{Result, Ok, Err, nat_le}
use Rattle.redo_path.proofs.ApartLemmas.{apart}
use Rattle.redo_path.proofs.CanonicalLemmas.{path-resolved}
use Rattle.redo_path.proofs.FileNameLemmas.{IsFileName, resolved-file}
use Rattle.redo_path.specs.declared.PathFault.{PathFault}
use Rattle.redo_path.specs.declared.PathFault.TheVariants.{LongName, LongPath}
use Rattle.redo_path.specs.Names.{IsPart, IsPath, child_of, is_control, is_slash}
use Rattle.redo_path.specs.Resolve.{resolved}
use Rattle.redo_which.proofs.FileLemmas.{do_file_name}
use Rattle.redo_which.specs.Candidates.{Place, place_at}
use Rattle.redo_which.specs.inside.Pieces.{prefix_of, spelled}

-- what fits is the path of a child
fits_to : (long over : Bool) (n m : ℕ) (path : List ℕ) → nat_lt 255 n ≡ long → nat_lt 1024 m ≡ over → (nat_le n 255 && nat_le m 1024) ≡ true → cond long (Err LongName) (cond over (Err LongPath) (Ok path)) ≡ Ok path
fits_to true over n m path l o h = let no : false ≡ true = grind (arith, common_steps) in apart cc
fits_to false true n m path l o h = let no : false ≡ true = grind (arith, common_steps) in apart cc
fits_to false false n m path l o h = refl

pub resolved-fits : (dir file : List ℕ) → IsFileName file → (nat_le (length file) 255 && nat_le (length (child_of dir file)) 1024) ≡ true → resolved dir file ≡ Ok (child_of dir file)
resolved-fits dir file h k =
    resolved-file dir file h
    ∙ fits_to (nat_lt 255 (length file)) (nat_lt 1024 (length (child_of dir file))) (length file) (length (child_of dir file)) (child_of dir file) refl refl k

abbrev place_from : List ℕ → ℕ → Result (List ℕ) PathFault → List Place
place_from dir cut r = elim r as (λ _. List Place) [ Ok path ↦ record { do_file = path; dir = dir; cut = cut } ∷ [] | Err fault ↦ [] ]

-- what doesn't fit is no place
none_from : (dir : List ℕ) (cut : ℕ) (long over : Bool) (n m : ℕ) (path : List ℕ) → nat_lt 255 n ≡ long → nat_lt 1024 m ≡ over → (nat_le n 255 && nat_le m 1024) ≡ false → place_from dir cut (cond long (Err LongName) (cond over (Err LongPath) (Ok path))) ≡ []
none_from dir cut true over n m path l o h = refl
none_from dir cut false true n m path l o h = refl
none_from dir cut false false n m path l o h = let no : false ≡ true = grind (arith, common_steps) in apart cc

pub no_place : (dir front suffix : List ℕ) (cut : ℕ) → IsPart (front ++ suffix) → (nat_le (length (front ++ suffix ++ codes ".do")) 255 && nat_le (length (child_of dir (front ++ suffix ++ codes ".do"))) 1024) ≡ false → [] ≡ place_at dir cut (front ++ suffix ++ codes ".do")
no_place dir front suffix cut h k =
    let file = front ++ suffix ++ codes ".do" in
    sym (ap (place_from dir cut) (resolved-file dir file (do_file_name (front ++ suffix) h))
    ∙ none_from dir cut (nat_lt 255 (length file)) (nat_lt 1024 (length (child_of dir file))) (length file) (length (child_of dir file)) (child_of dir file) refl refl k)

pub one_place : (dir front suffix : List ℕ) (cut : ℕ) → IsPart (front ++ suffix) → (nat_le (length (front ++ suffix ++ codes ".do")) 255 && nat_le (length (child_of dir (front ++ suffix ++ codes ".do"))) 1024) ≡ true → record { do_file = child_of dir (front ++ suffix ++ codes ".do"); dir = dir; cut = cut } ∷ [] ≡ place_at dir cut (front ++ suffix ++ codes ".do")
one_place dir front suffix cut h k = sym (ap (place_from dir cut) (resolved-fits dir (front ++ suffix ++ codes ".do") (do_file_name (front ++ suffix) h) k))

pub child_path : (dir front suffix : List ℕ) → IsPath dir → IsPart (front ++ suffix) → (nat_le (length (front ++ suffix ++ codes ".do")) 255 && nat_le (length (child_of dir (front ++ suffix ++ codes ".do"))) 1024) ≡ true → IsPath (child_of dir (front ++ suffix ++ codes ".do"))
child_path dir front suffix d h k = path-resolved dir (front ++ suffix ++ codes ".do") (child_of dir (front ++ suffix ++ codes ".do")) d (resolved-fits dir (front ++ suffix ++ codes ".do") (do_file_name (front ++ suffix) h) k)

-- a path in its pieces
pub spelled-child : (dir front suffix : List ℕ) → spelled dir (prefix_of dir front) suffix ≡ child_of dir (front ++ suffix ++ codes ".do")
spelled-child [] front suffix = refl
spelled-child (b ∷ bs) front suffix = ap (λ l. l ++ codes ".do") (append_assoc (b ∷ bs) (47 ∷ front) suffix) ∙ append_assoc (b ∷ bs) ((47 ∷ front) ++ suffix) (codes ".do")

all_end : {X : Type 0} (P : X → Type 0) (xs ys : List X) → AllByRecursion P (xs ++ ys) → AllByRecursion P ys
all_end P [] ys h = h
all_end P (x ∷ xs) ys h = all_end P xs ys h.1

-- the end of a part is one
pub part_end : (front suffix : List ℕ) → IsPart (front ++ suffix) → IsPart suffix
part_end front suffix h = record { no_slash = all_end (λ byte. is_slash byte ≡ false) front suffix h.no_slash; printable = all_end (λ byte. is_control byte ≡ false) front suffix h.printable }
