-- The .do files of candidates, each the path of a file name in a directory.
use Rattle.std.proofs.Common.{◌≡◌, ◌≢◌, ◌<◌, ℕ, Bool, true, false, cond, List, [], ◌∷◌, ◌++◌, length, codes, refl, sym}
use Rattle.std.proofs.Common.{ap, ◌∙◌, suc, arith, nat_lt, length-append, append_assoc, ◌+◌}
use Rattle.std.specs.List.{AllByRecursion}
use Rattle.std.specs.Prelude.{Ok, Err, Some, None}
use Rattle.std.specs.Option.{option_map_or}
use Rattle.std.specs.Str.{bytes_eq}
use Rattle.std.proofs.lemmas.List.{append_cancel_left, append_cancel_right}
use Rattle.std.proofs.lemmas.Slice.Eq.{bytes_eq-Decides}
use Rattle.redo_path.proofs.ApartLemmas.{apart}
use Rattle.redo_path.proofs.PartLemmas.{AllByRecursion-append, names-child, parts-name, text_of-names}
use Rattle.redo_path.specs.declared.PathFault.TheVariants.{LongName, LongPath}
use Rattle.redo_path.specs.Names.{IsPart, child_of, is_control, is_slash, names, parts, text_of}
use Rattle.redo_path.proofs.FileNameLemmas.{IsFileName as IsChildName}
use Rattle.redo_path.specs.Resolve.{resolved, step, walk, within_limit, word_fault, ◌>>=◌}
use Rattle.redo_which.specs.Candidates.{is_dot, suffixes}

abbrev pub NoSlash : List ℕ → Type 0
NoSlash text = AllByRecursion (λ byte. is_slash byte ≡ false) text

-- the file name of the candidate by a suffix
abbrev pub default_file : List ℕ → List ℕ
default_file suffix = codes "default" ++ suffix ++ codes ".do"

-- the file name of the candidate by the whole name
abbrev pub named_file : List ℕ → List ℕ
named_file name = name ++ codes ".do"

-- a file name that is one part of a word, and neither `.` nor `..`
pub record IsFileName (file : List ℕ) : Type 0 where
  pub no_slash : NoSlash file
  pub long : 2 < length file

pub IsFileName-default : (suffix : List ℕ) → NoSlash suffix → IsFileName (default_file suffix)
IsFileName-default suffix h = record {
  no_slash = AllByRecursion-append (λ byte. is_slash byte ≡ false) (codes "default") (suffix ++ codes ".do") (refl, (refl, (refl, (refl, (refl, (refl, (refl, tt)))))))
      (AllByRecursion-append (λ byte. is_slash byte ≡ false) suffix (codes ".do") h (refl, (refl, (refl, tt))));
  long = omega (arith, length-append (codes "default") (suffix ++ codes ".do"));
}

pub IsFileName-named : (name : List ℕ) → NoSlash name → IsFileName (named_file name)
IsFileName-named name h = record {
  no_slash = AllByRecursion-append (λ byte. is_slash byte ≡ false) name (codes ".do") h (refl, (refl, (refl, tt)));
  long = omega (arith, length-append name (codes ".do"));
}

-- the name of a .do file is that of a file in its directory
pub do_file_name : (stem : List ℕ) → IsPart stem → IsChildName (stem ++ codes ".do")
do_file_name stem h =
    let size : length (stem ++ codes ".do") ≡ length stem + 3 = length-append stem (codes ".do") in
    record {
      nonempty = λ e. let same : length (stem ++ codes ".do") ≡ 0 = ap length e in omega (arith, same, size);
      not_here = λ e. let same : length (stem ++ codes ".do") ≡ 1 = ap length e in omega (arith, same, size);
      not_parent = λ e. let same : length (stem ++ codes ".do") ≡ 2 = ap length e in omega (arith, same, size);
      part = record {
        no_slash = AllByRecursion-append (λ byte. is_slash byte ≡ false) stem (codes ".do") h.no_slash (refl, (refl, (refl, tt)));
        printable = AllByRecursion-append (λ byte. is_control byte ≡ false) stem (codes ".do") h.printable (refl, (refl, (refl, tt)));
      };
    }

pub suffixes_part : (name : List ℕ) → IsPart name → AllByRecursion IsPart (suffixes name)
suffixes_part [] h = (h, tt)
suffixes_part (b ∷ bs) h =
    let rest = suffixes_part bs (record { no_slash = h.no_slash.1; printable = h.printable.1 }) in
    elim (is_dot b) as (λ c. AllByRecursion IsPart (cond c ((b ∷ bs) ∷ suffixes bs) (suffixes bs))) [ true ↦ (h, rest) | false ↦ rest ]

pub not_same : (xs ys : List ℕ) → xs ≢ ys → bytes_eq xs ys ≡ false
not_same xs ys h =
    elim (bytes_eq xs ys) as (λ b. bytes_eq xs ys ≡ b → b ≡ false) [
      | true ↦ λ e. absurd (h ((bytes_eq-Decides xs ys).0 e))
      | false ↦ λ e. refl
    ] refl

not_short : (file ys : List ℕ) → length ys < length file → bytes_eq file ys ≡ false
not_short file ys h = not_same file ys (λ e. let same : length file ≡ length ys = ap length e in omega (arith, same, h))

some_file : (file : List ℕ) → 2 < length file → file ≢ []
some_file [] h e = absurd (omega (arith, h))
some_file (b ∷ bs) h e = apart cc

step-file : (ns : List (List ℕ)) (file : List ℕ) → 2 < length file → step ns file ≡ cond (nat_lt 255 (length file)) (Err LongName) (Ok (ns ++ file ∷ []))
step-file ns file h =
    let none : 0 < length file = omega (arith, h) in
    let one : 1 < length file = omega (arith, h) in
    rw (not_short file [] none, not_short file (codes ".") one, not_short file (codes "..") h)

within : (over : Bool) (text path : List ℕ) → cond over (Err LongPath) (Ok text) ≡ Ok path → text ≡ path
within true text path e = apart cc
within false text path e = cc

one_step : (long : Bool) (ns : List (List ℕ)) (path : List ℕ) → ((cond long (Err LongName) (Ok ns) >>= λ to. walk to []) >>= λ to. within_limit (text_of to)) ≡ Ok path → text_of ns ≡ path
one_step true ns path e = apart cc
one_step false ns path e = within (nat_lt 1024 (length (text_of ns))) (text_of ns) path e

-- what a file name names in a directory
pub child-resolved : (dir file path : List ℕ) → IsFileName file → resolved dir file ≡ Ok path → path ≡ child_of dir file
child-resolved dir file path h e =
    let ends = λ (to : List (List ℕ)). within_limit (text_of to) in
    elim (word_fault file) as (λ o. option_map_or Err o (walk (names dir) (parts file) >>= ends) ≡ Ok path → path ≡ child_of dir file) [
      | Some fault ↦ λ k. apart cc
      | None ↦ λ k.
          let one = sym (ap (λ r. (r >>= λ to. walk to []) >>= ends) (step-file (names dir) file h.long)) ∙ sym (ap (λ ps. walk (names dir) ps >>= ends) (parts-name file h.no_slash)) ∙ k in
          sym (one_step (nat_lt 255 (length file)) (names dir ++ file ∷ []) path one)
          ∙ ap text_of (sym (names-child dir file (some_file file h.long) h.no_slash)) ∙ text_of-names (child_of dir file)
    ] e

-- how deep it lies
pub child-depth : (dir file : List ℕ) → IsFileName file → length (names (child_of dir file)) ≡ suc (length (names dir))
child-depth dir file h = omega (arith, ap length (names-child dir file (some_file file h.long) h.no_slash), length-append (names dir) (file ∷ []))

pub child-same : (dir f g : List ℕ) → child_of dir f ≡ child_of dir g → f ≡ g
child-same [] f g e = e
child-same (b ∷ bs) f g e = let rest : 47 ∷ f ≡ 47 ∷ g = append_cancel_left (b ∷ bs) (47 ∷ f) (47 ∷ g) e in cc

pub default-same : (s t : List ℕ) → default_file s ≡ default_file t → s ≡ t
default-same s t e = append_cancel_right s t (codes ".do") (append_cancel_left (codes "default") (s ++ codes ".do") (t ++ codes ".do") e)

-- the candidate by the whole name that is one by a suffix
pub named-default : (name suffix : List ℕ) → name ≡ codes "default" ++ suffix → named_file name ≡ default_file suffix
named-default name suffix e = ap named_file e ∙ append_assoc (codes "default") suffix (codes ".do")

pub default-named : (name suffix : List ℕ) → named_file name ≡ default_file suffix → name ≡ codes "default" ++ suffix
default-named name suffix e = append_cancel_right name (codes "default" ++ suffix) (codes ".do") (e ∙ sym (append_assoc (codes "default") suffix (codes ".do")))
