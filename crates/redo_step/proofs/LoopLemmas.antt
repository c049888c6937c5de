-- Parts of a command, one after the other.
use Rattle.std.proofs.Common.{◌≡◌, ℕ, suc, ◌+◌, ◌<◌, ◌≤◌, List, [], ◌∷◌, ◌++◌, length, drop, get_or, Option, Some, None}
use Rattle.std.proofs.Common.{Result, Ok, Err}
use Rattle.std.specs.Prelude.{option_map}
use Rattle.std.proofs.Common.{refl, sym, ap, ◌∙◌, arith, add-one, append_assoc, length-drop}
use Rattle.std.proofs.Math.Seq.{drop-cons}
use Rattle.std.proofs.lemmas.List.{nil_from_length, append-nil}
use Rattle.redo_script.specs.declared.ast.Word.{Word as WordTree}
use Rattle.redo_script.specs.View.{word_of, words_of}
use Rattle.redo_record.specs.Paths.{Path}
use Rattle.redo_step.specs.Setting.{Setting}
use Rattle.redo_step.specs.Runs.{End, ◌>>=◌}
use Rattle.redo_step.specs.Words.{text_of, texts_of, path_of, paths_of}
use Rattle.redo_step.specs.inside.Machine.{IsMeant}

-- a part that stopped stops what goes on from it
pub stops_bind : {A B : Type 0} (end : Option End) (r : Result A End) (f : A → Result B End) → IsMeant (option_map Err end) r → IsMeant (option_map Err end) (r >>= f)
stops_bind None r f h = tt
stops_bind (Some e) r f h = rw h refl

-- what a part gave goes on
pub bind_ok : {A B : Type 0} (r : Result A End) (f : A → Result B End) (x : A) → r ≡ Ok x → (r >>= f) ≡ f x
bind_ok r f x h = rw h refl

-- the rest, with these before it
abbrev pub after_front : {B : Type 0} → List B → Result (List B) End → Result (List B) End
after_front front r = r >>= λ ys. Ok (front ++ ys)

-- one after the other, from left to right
abbrev pub each_of : {A B : Type 0} → (A → Result B End) → List A → Result (List B) End
each_of f [] = Ok []
each_of f (x ∷ xs) = f x >>= λ y. each_of f xs >>= λ ys. Ok (y ∷ ys)

after_assoc : {B : Type 0} (front : List B) (y : B) (r : Result (List B) End) → after_front front (r >>= λ ys. Ok (y ∷ ys)) ≡ after_front (front ++ y ∷ []) r
after_assoc front y (Ok ys) = ap Ok (sym (append_assoc front (y ∷ []) ys))
after_assoc front y (Err e) = refl

module _ {A B : Type 0} (f : A → Result B End) (xs : List A) (i : ℕ) (x : A) (lt : i < length xs) (is : x ≡ get_or xs i x) (front : List B) where
  split : drop i xs ≡ x ∷ drop (i + 1) xs
  split = rw add-one (drop-cons xs i x lt ∙ ap (λ y. y ∷ drop (suc i) xs) (sym is))

  -- a turn of the loop
  pub each_goes : (total : Result (List B) End) (y : B) → f x ≡ Ok y → after_front front (each_of f (drop i xs)) ≡ total → after_front (front ++ y ∷ []) (each_of f (drop (i + 1) xs)) ≡ total
  each_goes total y h before =
      let e : after_front front (each_of f (drop i xs)) ≡ after_front front (each_of f (x ∷ drop (i + 1) xs)) = ap (λ l. after_front front (each_of f l)) split in
      let n : after_front front (each_of f (x ∷ drop (i + 1) xs)) ≡ after_front (front ++ y ∷ []) (each_of f (drop (i + 1) xs)) = rw h (after_assoc front y (each_of f (drop (i + 1) xs))) in
      sym n ∙ sym e ∙ before

  -- a turn that stops
  pub each_stops : (total : Result (List B) End) (end : Option End) → IsMeant (option_map Err end) (f x) → after_front front (each_of f (drop i xs)) ≡ total → IsMeant (option_map Err end) total
  each_stops total end h before =
      rw (← before, split) (stops_bind end (each_of f (x ∷ drop (i + 1) xs)) (λ ys. Ok (front ++ ys)) (stops_bind end (f x) (λ y. each_of f (drop (i + 1) xs) >>= λ ys. Ok (y ∷ ys)) h))

-- the end of the loop
pub each_done : {A B : Type 0} (f : A → Result B End) (xs : List A) (i : ℕ) (front : List B) (total : Result (List B) End) → length xs ≤ i → after_front front (each_of f (drop i xs)) ≡ total → total ≡ Ok front
each_done f xs i front total le before =
    let none : drop i xs ≡ [] = nil_from_length (drop i xs) (simp length-drop (omega arith)) in
    let e : after_front front (each_of f (drop i xs)) ≡ Ok front = rw none (ap Ok (append-nil front)) in
    sym before ∙ e

pub none_before : {B : Type 0} (r : Result (List B) End) → after_front [] r ≡ r
none_before (Ok ys) = refl
none_before (Err e) = refl

module _ (setting : Setting) (line : ℕ) where
  abbrev pub word_text : WordTree → Result (List ℕ) End
  word_text w = text_of setting line (word_of w)

  abbrev pub text_path : List ℕ → Result Path End
  text_path t = path_of setting line t

  pub texts_each : (ws : List WordTree) → texts_of setting line (words_of ws) ≡ each_of word_text ws
  texts_each [] = refl
  texts_each (w ∷ ws) = ap (λ r. text_of setting line (word_of w) >>= λ t. r >>= λ ts. Ok (t ∷ ts)) (texts_each ws)

  pub paths_each : (ts : List (List ℕ)) → paths_of setting line ts ≡ each_of text_path ts
  paths_each [] = refl
  paths_each (t ∷ ts) = ap (λ r. path_of setting line t >>= λ p. r >>= λ ps. Ok (p ∷ ps)) (paths_each ts)
