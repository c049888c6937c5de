-- Words as lists of symbols.
use Rattle.std.proofs.Common.{◌≡◌, ℕ, true, List, [], ◌∷◌, ◌++◌, Option, Some, None, sym, refl, ap, ◌∙◌, append_assoc}
use Rattle.std.proofs.Common.{map}
use Rattle.std.specs.Option.{MatchOption}
use Rattle.redo_script.specs.declared.number.Number.{Number}
use Rattle.redo_script.specs.inside.Parser.{status_on}
use Rattle.std.proofs.lemmas.List.{append-nil}
use Rattle.redo_script.specs.declared.ast.Part.{Part}
use Rattle.redo_script.specs.Syntax.{byte, Word}
use Rattle.redo_script.specs.Forms.{literal_on, knows_word}
use Rattle.redo_script.specs.View.{symbols_of, symbols_of_part}

symbols_of-push : (ps : List Part) (p : Part) → symbols_of (ps ++ p ∷ []) ≡ symbols_of ps ++ symbols_of_part p
symbols_of-push [] p = append-nil (symbols_of_part p)
symbols_of-push (q ∷ qs) p = ap (λ w. symbols_of_part q ++ w) (symbols_of-push qs p) ∙ sym (append_assoc (symbols_of_part q) (symbols_of qs) (symbols_of_part p))

-- one more part behind a word with no bytes behind its parts
pub word_push : (parts new : List Part) (p : Part) (literal literal' : List ℕ) (w : Word) → new ≡ parts ++ p ∷ [] → literal ≡ [] → literal' ≡ [] → symbols_of parts ++ map byte literal ≡ w → symbols_of new ++ map byte literal' ≡ w ++ symbols_of_part p
word_push parts new p literal literal' w e l l' h =
    let before : symbols_of parts ≡ w = sym (append-nil (symbols_of parts)) ∙ (rw l at h) in
    rw (e, l', symbols_of-push parts p, before) (append-nil (w ++ symbols_of_part p))

-- a word of bytes alone, as one that may go on with nothing
pub number_alone : (digits value : ℕ) (bytes : List ℕ) (r : Option Number) → MatchOption r ((w : Word) → status_on digits value (map byte bytes ++ w) ≡ None) (λ n. (w : Word) → status_on digits value (map byte bytes ++ w) ≡ status_on n.digits n.value w) → MatchOption r (status_on digits value (map byte bytes) ≡ None) (λ n. status_on digits value (map byte bytes) ≡ status_on n.digits n.value [])
number_alone digits value bytes None h = ap (status_on digits value) (sym (append-nil (map byte bytes))) ∙ h []
number_alone digits value bytes (Some n) h = ap (status_on digits value) (sym (append-nil (map byte bytes))) ∙ h []

-- bytes in front of a word whose bytes are taken
pub literal_past : (bs cs : List ℕ) (w : Word) → literal_on bs (map byte cs ++ w) ≡ literal_on (bs ++ cs) w
literal_past bs [] w = ap (λ x. literal_on x w) (sym (append-nil bs))
literal_past bs (c ∷ cs) w = literal_past (bs ++ c ∷ []) cs w ∙ ap (λ x. literal_on x w) (append_assoc bs (c ∷ []) cs)

literal_on-bytes : (bs cs : List ℕ) → literal_on bs (map byte cs) ≡ Some (bs ++ cs)
literal_on-bytes bs [] = ap (λ x. Some x) (sym (append-nil bs))
literal_on-bytes bs (c ∷ cs) = literal_on-bytes (bs ++ c ∷ []) cs ∙ ap (λ x. Some x) (append_assoc bs (c ∷ []) cs)

pub literal_bytes : (cs : List ℕ) → literal_on [] (map byte cs) ≡ Some cs
literal_bytes cs = literal_on-bytes [] cs

-- bytes have no names
pub knows_past : (names : List (List ℕ)) (cs : List ℕ) (w : Word) → knows_word names (map byte cs ++ w) ≡ knows_word names w
knows_past names [] w = refl
knows_past names (c ∷ cs) w = knows_past names cs w

pub knows_bytes : (names : List (List ℕ)) (cs : List ℕ) → knows_word names (map byte cs) ≡ true
knows_bytes names [] = refl
knows_bytes names (c ∷ cs) = knows_bytes names cs
