-- What escaped bytes are, chunk by chunk, and what HTML reads.
use Rattle.std.proofs.Common.{◌≡◌, ◌∙◌, ◌+◌, ◌<◌, ◌≤◌, ℕ, zero, suc, List, [], ◌∷◌, ◌++◌, false, inl, inr, refl, sym}
use Rattle.std.proofs.Common.{ap, subst}
use Rattle.std.proofs.Common.{append_assoc, append-nil, arith, drop, flat_map, length, length-append, take}
use Rattle.std.proofs.lemmas.Bool.{cases_Bool, eqb-true}
use Rattle.std.proofs.lemmas.Grind.{flat_map-append}
use Rattle.std.specs.Prelude.{◌==◌}
use Rattle.std.specs.Str.Lossy.{after_first_chunk, utf8_error_len, utf8_invalid_len, utf8_valid_len}
use Rattle.redo_page.specs.Html.{Reads, end, amp, lt, gt, quot, apos, plain, escaped, is_markup, named, reference}
use Rattle.redo_page.specs.Html.{ReadsString, backslash, end_string, in_string, is_special, itself, less_than, quote, tab}
use Rattle.redo_page.specs.Html.{shown}
use Rattle.redo_page.specs.Html.{shown_within, visible}
use lib.Seq.{take-length, take_at, drop_at}

-- what is shown of bytes that begin with a chunk
shown-chunk : (k : ℕ) (bytes valid invalid rest : List ℕ) → bytes ≡ valid ++ (invalid ++ rest) →
    length valid ≡ utf8_valid_len bytes → length invalid ≡ utf8_invalid_len (drop (utf8_valid_len bytes) bytes) →
    shown_within (suc k) bytes ≡ flat_map visible valid ++ flat_map named invalid ++ shown_within k rest
shown-chunk k bytes valid invalid rest parts valid_len invalid_len =
    let n = utf8_valid_len bytes in
    let m = utf8_invalid_len (drop n bytes) in
    let front : take n bytes ≡ valid = ap (take n) parts ∙ take_at valid _ n valid_len in
    let back : drop n bytes ≡ invalid ++ rest = ap (drop n) parts ∙ drop_at valid _ n valid_len in
    let middle : take m (drop n bytes) ≡ invalid = ap (take m) back ∙ take_at invalid rest m invalid_len in
    let both_len : length (valid ++ invalid) ≡ n + m = omega (arith, length-append valid invalid) in
    let after : after_first_chunk bytes ≡ rest =
    ap (drop (n + m)) (parts ∙ sym (append_assoc valid invalid rest)) ∙ drop_at (valid ++ invalid) rest (n + m) both_len in
    λ i. flat_map visible (front i) ++ flat_map named (middle i) ++ shown_within k (after i)

-- one chunk more, whatever stands for a byte
pub one-chunk : (ref : ℕ → List ℕ) (k : ℕ) (out all bytes valid invalid rest new : List ℕ) → bytes ≡ valid ++ (invalid ++ rest) →
    length valid ≡ utf8_valid_len bytes → length invalid ≡ utf8_invalid_len (drop (utf8_valid_len bytes) bytes) →
    length rest < length bytes → length bytes ≤ k → out ++ flat_map ref (shown_within k bytes) ≡ all →
    new ≡ (out ++ flat_map ref (flat_map visible valid)) ++ flat_map ref (flat_map named invalid) →
    (j : ℕ) × (length rest ≤ j) × (new ++ flat_map ref (shown_within j rest) ≡ all)
one-chunk ref zero out all bytes valid invalid rest new parts valid_len invalid_len less within so_far is = absurd (omega arith)
one-chunk ref (suc k) out all bytes valid invalid rest new parts valid_len invalid_len less within so_far is =
    let v = flat_map visible valid in
    let w = flat_map named invalid in
    let split : flat_map ref (v ++ w ++ shown_within k rest) ≡ flat_map ref v ++ flat_map ref w ++ flat_map ref (shown_within k rest) =
    simp (flat_map-append, append_assoc) refl in (
      k,
      omega arith,
      ap (λ n. n ++ flat_map ref (shown_within k rest)) is
          ∙ simp append_assoc (sym (ap (λ t. out ++ t) (simp append_assoc at split)))
          ∙ ap (λ t. out ++ flat_map ref t) (sym (shown-chunk k bytes valid invalid rest parts valid_len invalid_len))
          ∙ so_far,
    )

-- nothing is shown of nothing
shown-none : (k : ℕ) → shown_within k [] ≡ []
unfolding utf8_valid_len utf8_error_len
shown-none zero = refl
shown-none (suc k) = shown-none k

nil-from-length : (bytes : List ℕ) → length bytes ≡ 0 → bytes ≡ []
nil-from-length bytes none = sym (take-length bytes) ∙ ap (λ k. take k bytes) none

pub none-left : (ref : ℕ → List ℕ) (k : ℕ) (out all rest : List ℕ) → length rest ≡ 0 → out ++ flat_map ref (shown_within k rest) ≡ all → out ≡ all
none-left ref k out all rest none so_far =
    let nothing : shown_within k rest ≡ [] = ap (shown_within k) (nil-from-length rest none) ∙ shown-none k in
    sym (append-nil out) ∙ ap (λ t. out ++ flat_map ref t) (sym nothing) ∙ so_far

-- what stands for a byte is read as that byte
read-one : (b : ℕ) (text bytes : List ℕ) → Reads text bytes → Reads (reference b ++ text) (b ∷ bytes)
read-one b text bytes r =
    let same = λ (x : ℕ). λ (e : b ≡ x). λ (read : Reads (reference x ++ text) (x ∷ bytes)).
    subst (λ y. Reads (reference y ++ text) (y ∷ bytes)) (sym e) read in
    elim (cases_Bool (b == 38)) [
      | inl t ↦ same 38 (eqb-true b 38 t) (amp text bytes r)
      | inr f1 ↦ elim (cases_Bool (b == 60)) [
        | inl t ↦ same 60 (eqb-true b 60 t) (lt text bytes r)
        | inr f2 ↦ elim (cases_Bool (b == 62)) [
          | inl t ↦ same 62 (eqb-true b 62 t) (gt text bytes r)
          | inr f3 ↦ elim (cases_Bool (b == 34)) [
            | inl t ↦ same 34 (eqb-true b 34 t) (quot text bytes r)
            | inr f4 ↦ elim (cases_Bool (b == 39)) [
              | inl t ↦ same 39 (eqb-true b 39 t) (apos text bytes r)
              | inr f5 ↦
                  let itself : reference b ≡ b ∷ [] = rw (f1, f2, f3, f4, f5) refl in
                  let harmless : is_markup b ≡ false = rw (f1, f2, f3, f4, f5) refl in
                  subst (λ t. Reads (t ++ text) (b ∷ bytes)) (sym itself) (plain b text bytes harmless r)
            ]
          ]
        ]
      ]
    ]

read-all : (bytes : List ℕ) → Reads (flat_map reference bytes) bytes
read-all [] = end
read-all (b ∷ bytes) = read-one b (flat_map reference bytes) bytes (read-all bytes)

-- escaped bytes are read as they are shown
pub reads_back : (bytes : List ℕ) → Reads (escaped bytes) (shown bytes)
unfolding escaped
reads_back bytes = read-all (shown bytes)

-- what stands for a byte in a string is read as that byte
string-one : (b : ℕ) (text bytes : List ℕ) → ReadsString text bytes → ReadsString (in_string b ++ text) (b ∷ bytes)
string-one b text bytes r =
    let same = λ (x : ℕ). λ (e : b ≡ x). λ (read : ReadsString (in_string x ++ text) (x ∷ bytes)).
    subst (λ y. ReadsString (in_string y ++ text) (y ∷ bytes)) (sym e) read in
    elim (cases_Bool (b == 34)) [
      | inl t ↦ same 34 (eqb-true b 34 t) (quote text bytes r)
      | inr f1 ↦ elim (cases_Bool (b == 92)) [
        | inl t ↦ same 92 (eqb-true b 92 t) (backslash text bytes r)
        | inr f2 ↦ elim (cases_Bool (b == 60)) [
          | inl t ↦ same 60 (eqb-true b 60 t) (less_than text bytes r)
          | inr f3 ↦ elim (cases_Bool (b == 9)) [
            | inl t ↦ same 9 (eqb-true b 9 t) (tab text bytes r)
            | inr f4 ↦
                let alone : in_string b ≡ b ∷ [] = rw (f1, f2, f3, f4) refl in
                let plain : is_special b ≡ false = rw (f1, f2, f3, f4) refl in
                subst (λ t. ReadsString (t ++ text) (b ∷ bytes)) (sym alone) (itself b text bytes plain r)
          ]
        ]
      ]
    ]

-- what is quoted is read as it is shown
pub string_back : (bytes : List ℕ) → ReadsString (flat_map in_string bytes) bytes
string_back [] = end_string
string_back (b ∷ bytes) = string-one b (flat_map in_string bytes) bytes (string_back bytes)
