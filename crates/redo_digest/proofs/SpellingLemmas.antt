-- A digest is read from its own digits, and from no other word.
use Rattle.std.proofs.Common.{◌≡◌, ℕ, Bool, true, false, cond, List, refl, sym, subst, ◌∙◌, arith, Some}
use Rattle.std.proofs.Common.{None}
use Rattle.std.proofs.lemmas.Slice.Eq.{bytes_eq-Decides}
use Rattle.std.specs.Prelude.{Result, Ok, Err, option_and_then}
use Rattle.std.specs.Result.{result_ok}
use Rattle.std.specs.Str.{bytes_eq}
use Rattle.hex.specs.Hex.{decode_sized, encode_lower}
use Rattle.hex.specs.declared.error.FromHexError.{FromHexError}
use Rattle.hex.proofs.HexLemmas.{decode_of-ok, decode_sized-encode_lower, decode_sized-ok, decode_sized-twice}
use Rattle.redo_digest.specs.Digest.{IsDigest, Spells, digest_of}

pub digest_spelled : (digest : List ℕ) → IsDigest digest → digest_of (encode_lower digest) ≡ Some digest
digest_spelled digest h = rw (decode_sized-encode_lower digest 32 h.size h.bytes, (bytes_eq-Decides (encode_lower digest) (encode_lower digest)).1 refl) refl

of_bytes : (word bytes digest : List ℕ) (b : Bool) → bytes_eq (encode_lower bytes) word ≡ b → decode_sized word 32 ≡ Ok bytes → cond b (Some bytes) None ≡ Some digest → Spells word digest
of_bytes word bytes digest true same ok h =
    let (even, digits, twice, small) = decode_of-ok word bytes (sym (decode_sized-twice word 32 (decode_sized-ok word 32 bytes ok)) ∙ ok) in
    let size = decode_sized-ok word 32 bytes ok in
    let spelled : Spells word bytes = record { whole = sym ((bytes_eq-Decides (encode_lower bytes) word).0 same); is = record { size = omega arith; bytes = small } } in
    let is : bytes ≡ digest = cc in
    subst (Spells word) is spelled
of_bytes word bytes digest false same ok h = absurd cc

of_result : (word digest : List ℕ) (r : Result (List ℕ) FromHexError) → decode_sized word 32 ≡ r → option_and_then (λ bytes. cond (bytes_eq (encode_lower bytes) word) (Some bytes) None) (result_ok r) ≡ Some digest → Spells word digest
of_result word digest (Ok bytes) ok h = of_bytes word bytes digest (bytes_eq (encode_lower bytes) word) refl ok h
of_result word digest (Err e) ok h = absurd cc

pub digest_is : (word digest : List ℕ) → digest_of word ≡ Some digest → Spells word digest
digest_is word digest h = of_result word digest (decode_sized word 32) refl h

pub spelled_is : (word digest : List ℕ) → Spells word digest → digest_of word ≡ Some digest
spelled_is word digest s = subst (λ w. digest_of w ≡ Some digest) (sym s.whole) (digest_spelled digest s.is)
