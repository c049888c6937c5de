-- A name that was found in a directory stands at the path that it names from there.
use Rattle.std.proofs.Common.{◌≡◌, ◌≢◌, ◌<◌, ℕ, Bool, true, false, not, ◌&&◌, ◌||◌, List, [], ◌∷◌, ◌++◌, codes, length}
use Rattle.std.proofs.Common.{refl, sym, ap, subst, ◌∙◌, arith, Some, None, nat_lt}
use Rattle.std.specs.Prelude.{Ok, Err}
use Rattle.std.specs.List.{AllByRecursion, list_any}
use Rattle.std.specs.Option.{option_map_or}
use Rattle.std.specs.Str.{bytes_eq}
use Rattle.std.proofs.lemmas.Slice.Eq.{bytes_eq-Decides}
use Rattle.redo_path.specs.declared.PathFault.{PathFault}
use Rattle.redo_path.specs.declared.PathFault.TheVariants.{Empty, Absolute, Above, BadByte, LongName, LongPath, Memory}
use Rattle.redo_path.specs.Names.{IsName, IsPart, IsPath, child_of, is_slash, names, parts, text_of}
use Rattle.redo_path.specs.Resolve.{Answers, resolved, walk, within_limit, word_fault, ◌>>=◌}
use Rattle.redo_path.proofs.ApartLemmas.{apart}
use Rattle.redo_path.proofs.CanonicalLemmas.{resolved-path}
use Rattle.redo_path.proofs.CutLemmas.{printable-word, resolved-walk, within_limit-long, within_limit-short}
use Rattle.redo_path.proofs.PartLemmas.{names-child, names_from_parts, parts-name, text_of-names}
use Rattle.redo_path.proofs.StepLemmas.{IsPlain, IsName-plain, step-plain}
use Rattle.redo_dir.specs.Loaded.{MayStand, is_one_name}
use borrow.Author.Tests.{ltb-false, ltb-true}

all_false : (a b c : Bool) → (not a && not b && not c) ≡ true → (a ≡ false) × (b ≡ false) × (c ≡ false)
all_false false false false h = (refl, refl, refl)
all_false false false true h = apart cc
all_false false true c h = apart cc
all_false true b c h = apart cc

not_same : (xs ys : List ℕ) → xs ≢ ys → bytes_eq xs ys ≡ false
not_same xs ys h =
    elim (bytes_eq xs ys) as (λ b. bytes_eq xs ys ≡ b → b ≡ false) [
      | true ↦ λ e. absurd (h ((bytes_eq-Decides xs ys).0 e))
      | false ↦ λ e. refl
    ] refl

some_bytes : (name : List ℕ) → name ≢ [] → 0 < length name
some_bytes [] h = absurd (h refl)
some_bytes (b ∷ bs) h = omega arith

without_slash : (bs : List ℕ) → list_any is_slash bs ≡ false → AllByRecursion (λ byte. is_slash byte ≡ false) bs
without_slash [] h = tt
without_slash (b ∷ bs) h =
    elim (is_slash b) as (λ t. is_slash b ≡ t → (t || list_any is_slash bs) ≡ false → AllByRecursion (λ byte. is_slash byte ≡ false) (b ∷ bs)) [
      | true ↦ λ e k. apart cc
      | false ↦ λ e k. (e, without_slash bs k)
    ] refl h

any_slash : (bs : List ℕ) → AllByRecursion (λ byte. is_slash byte ≡ false) bs → list_any is_slash bs ≡ false
any_slash [] h = refl
any_slash (b ∷ bs) h = rw h.0 (any_slash bs h.1)

one_name : (name : List ℕ) → IsName name → is_one_name name ≡ true
one_name name h =
    rw (not_same name (codes ".") h.not_here, not_same name (codes "..") h.not_parent, any_slash name h.part.no_slash) refl

plain_name : (name : List ℕ) → IsName name → IsPlain name
plain_name name h = record {
  nonempty = some_bytes name h.nonempty;
  not_here = not_same name (codes ".") h.not_here;
  not_parent = not_same name (codes "..") h.not_parent;
  short = h.short;
}

-- a name is a path of its own
path_of_name : (name : List ℕ) → IsName name → IsPath name
path_of_name name h = record {
  each = names_from_parts IsName name (subst (AllByRecursion IsName) (sym (parts-name name h.part.no_slash)) (h, tt));
  short = omega (arith, h.short);
}

no_fault : (name : List ℕ) → resolved [] name ≡ Ok name → word_fault name ≡ None
no_fault name h =
    elim (word_fault name) as (λ o. option_map_or Err o (walk (names []) (parts name) >>= λ ns. within_limit (text_of ns)) ≡ Ok name → o ≡ None) [
      | None ↦ λ k. refl
      | Some fault ↦ λ k. apart cc
    ] h

child_text : (dir name : List ℕ) → name ≢ [] → AllByRecursion (λ byte. is_slash byte ≡ false) name → text_of (names dir ++ name ∷ []) ≡ child_of dir name
child_text dir name some h = ap text_of (sym (names-child dir name some h)) ∙ text_of-names (child_of dir name)

-- where one name leads that is none of the special ones
walked : (dir name : List ℕ) → IsPlain name → AllByRecursion (λ byte. is_slash byte ≡ false) name → walk (names dir) (parts name) ≡ Ok (names dir ++ name ∷ [])
walked dir name h k = ap (walk (names dir)) (parts-name name k) ∙ ap (λ r. r >>= λ to. walk to []) (step-plain (names dir) name h)

resolved-plain : (dir name : List ℕ) → word_fault name ≡ None → IsPlain name → name ≢ [] → AllByRecursion (λ byte. is_slash byte ≡ false) name → resolved dir name ≡ within_limit (child_of dir name)
resolved-plain dir name f h some k =
    resolved-walk dir name (Ok (names dir ++ name ∷ [])) f (walked dir name h k) ∙ ap within_limit (child_text dir name some k)

resolved-stands : (dir name : List ℕ) → MayStand dir name → resolved dir name ≡ Ok (child_of dir name)
resolved-stands dir name h =
    resolved-plain dir name (no_fault name (resolved-path name h.named.nonempty (path_of_name name h.named))) (plain_name name h.named) h.named.nonempty h.named.part.no_slash
    ∙ within_limit-short (child_of dir name) h.short

not_empty : (name : List ℕ) → word_fault name ≡ None → name ≢ []
not_empty [] h e = apart cc
not_empty (b ∷ bs) h e = cc

too_long : (dir name : List ℕ) → word_fault name ≡ None → name ≢ [] → bytes_eq name (codes ".") ≡ false → bytes_eq name (codes "..") ≡ false → AllByRecursion (λ byte. is_slash byte ≡ false) name → nat_lt 255 (length name) ≡ true → resolved dir name ≡ Err LongName
too_long dir [] f some here parent k long = absurd (some refl)
too_long dir (b ∷ bs) f some here parent k long =
    resolved-walk dir (b ∷ bs) (Err LongName) f (ap (walk (names dir)) (parts-name (b ∷ bs) k) ∙ rw (here, parent, long) refl)

stands-plain : (dir name path : List ℕ) → word_fault name ≡ None → IsPlain name → IsPart name → resolved dir name ≡ Ok path → MayStand dir name
stands-plain dir name path f h k e =
    let named = IsName-plain name h k in
    elim (nat_lt 1024 (length (child_of dir name))) as (λ b. nat_lt 1024 (length (child_of dir name)) ≡ b → MayStand dir name) [
      | true ↦ λ l. let r = resolved-plain dir name f h named.nonempty k.no_slash ∙ within_limit-long (child_of dir name) (ltb-true 1024 _ l) in apart cc
      | false ↦ λ l. record { named = named; short = ltb-false 1024 _ l }
    ] refl

stands-part : (dir name path : List ℕ) → word_fault name ≡ None → bytes_eq name (codes ".") ≡ false → bytes_eq name (codes "..") ≡ false → IsPart name → resolved dir name ≡ Ok path → MayStand dir name
stands-part dir name path f here parent k e =
    let some = not_empty name f in
    elim (nat_lt 255 (length name)) as (λ b. nat_lt 255 (length name) ≡ b → MayStand dir name) [
      | true ↦ λ l. let r = too_long dir name f some here parent k.no_slash l in apart cc
      | false ↦ λ l. stands-plain dir name path f (record { nonempty = some_bytes name some; not_here = here; not_parent = parent; short = ltb-false 255 _ l }) k e
    ] refl

no_word_fault : (dir name path : List ℕ) → resolved dir name ≡ Ok path → word_fault name ≡ None
no_word_fault dir name path h =
    elim (word_fault name) as (λ o. option_map_or Err o (walk (names dir) (parts name) >>= λ ns. within_limit (text_of ns)) ≡ Ok path → o ≡ None) [
      | None ↦ λ k. refl
      | Some fault ↦ λ k. apart cc
    ] h

-- what leads elsewhere stands in no directory
pub no_name_stands : (dir name : List ℕ) → is_one_name name ≡ false → MayStand dir name → ⊥
no_name_stands dir name e h = let t = one_name name h.named in cc

-- what names a path from a directory may stand there, and does at that path
pub named_stands : (dir name path : List ℕ) → is_one_name name ≡ true → resolved dir name ≡ Ok path → MayStand dir name
named_stands dir name path one e =
    let apart_from = all_false (bytes_eq name (codes ".")) (bytes_eq name (codes "..")) (list_any is_slash name) one in
    let f = no_word_fault dir name path e in
    let part : IsPart name = record { no_slash = without_slash name apart_from.2; printable = printable-word name f } in
    stands-part dir name path f apart_from.0 apart_from.1 part e

pub named_at : (dir name path : List ℕ) → is_one_name name ≡ true → resolved dir name ≡ Ok path → path ≡ child_of dir name
named_at dir name path one e = let same = resolved-stands dir name (named_stands dir name path one e) in cc

-- what names no path from a directory can't stand there
pub refused_stands : (dir name : List ℕ) (fault : PathFault) → fault ≢ Memory → Answers (Err fault) (resolved dir name) → MayStand dir name → ⊥
refused_stands dir name Empty m e h = let same = resolved-stands dir name h in apart cc
refused_stands dir name Absolute m e h = let same = resolved-stands dir name h in apart cc
refused_stands dir name Above m e h = let same = resolved-stands dir name h in apart cc
refused_stands dir name (BadByte place) m e h = let same = resolved-stands dir name h in apart cc
refused_stands dir name LongName m e h = let same = resolved-stands dir name h in apart cc
refused_stands dir name LongPath m e h = let same = resolved-stands dir name h in apart cc
refused_stands dir name Memory m e h = m refl
