-- The path of a file name in a directory.
use Rattle.std.proofs.Common.{◌≡◌, ◌≢◌, ℕ, true, false, cond, List, [], ◌∷◌, ◌++◌, length, refl, sym, ap, subst, ◌∙◌}
use Rattle.std.proofs.Common.{Some, None, nat_lt, codes}
use Rattle.std.specs.List.{position}
use Rattle.std.specs.Option.{option_map, option_map_or}
use Rattle.std.specs.Prelude.{Result, Ok, Err}
use Rattle.std.specs.Str.{bytes_eq}
use Rattle.redo_path.specs.declared.PathFault.{PathFault}
use Rattle.redo_path.specs.declared.PathFault.TheVariants.{Absolute, BadByte, LongName}
use Rattle.redo_path.specs.Names.{is_control, parts, names, text_of, child_of, IsPart}
use Rattle.redo_path.specs.Resolve.{Answers, step, walk, word_fault, resolved, within_limit, ◌>>=◌}
use Rattle.redo_path.proofs.PartLemmas.{names-child, parts-name, text_of-names}
use Rattle.redo_path.proofs.CanonicalLemmas.{no_control, no_place_of, not_same}

-- a name of any length
pub record IsFileName (name : List ℕ) : Type 0 where
  pub nonempty : name ≢ []
  pub not_here : name ≢ codes "."
  pub not_parent : name ≢ codes ".."
  pub part : IsPart name

some_name : (name : List ℕ) → name ≢ [] → bytes_eq name [] ≡ false
some_name name h = not_same name [] h

step-file : (ns : List (List ℕ)) (name : List ℕ) → IsFileName name → step ns name ≡ cond (nat_lt 255 (length name)) (Err LongName) (Ok (ns ++ name ∷ []))
step-file ns name h = rw (some_name name h.nonempty, not_same name (codes ".") h.not_here, not_same name (codes "..") h.not_parent)

no_fault : (name : List ℕ) → name ≢ [] → IsPart name → word_fault name ≡ None
no_fault [] some h = absurd (some refl)
no_fault (b ∷ bs) some h =
    let none : position is_control (b ∷ bs) ≡ None = no_place_of _ _ is_control (no_control (b ∷ bs) h.printable) in
    ap (λ t. cond t (Some Absolute) (option_map BadByte (position is_control (b ∷ bs)))) h.no_slash.0 ∙ ap (option_map BadByte) none

text_of-child : (dir name : List ℕ) → name ≢ [] → IsPart name → text_of (names dir ++ name ∷ []) ≡ child_of dir name
text_of-child dir name some h = ap text_of (sym (names-child dir name some h.no_slash)) ∙ text_of-names (child_of dir name)

-- what a file name names
pub resolved-file : (dir name : List ℕ) → IsFileName name → resolved dir name ≡ cond (nat_lt 255 (length name)) (Err LongName) (within_limit (child_of dir name))
resolved-file dir name h =
    let ends = λ (to : List (List ℕ)). within_limit (text_of to) in
    ap (λ o. option_map_or Err o (walk (names dir) (parts name) >>= ends)) (no_fault name h.nonempty h.part)
    ∙ ap (λ ps. walk (names dir) ps >>= ends) (parts-name name h.part.no_slash)
    ∙ ap (λ r. (r >>= λ to. walk to []) >>= ends) (step-file (names dir) name h)
    ∙ elim (nat_lt 255 (length name)) as (λ b. ((cond b (Err LongName) (Ok (names dir ++ name ∷ [])) >>= λ to. walk to []) >>= ends) ≡ cond b (Err LongName) (within_limit (child_of dir name))) [
      | true ↦ refl
      | false ↦ ap within_limit (text_of-child dir name h.nonempty h.part)
    ]

pub Answers-file : {A : Type 0} (result : Result A PathFault) (meant other : Result A PathFault) → meant ≡ other → Answers result other → Answers result meant
Answers-file result meant other e h = subst (Answers result) (sym e) h
