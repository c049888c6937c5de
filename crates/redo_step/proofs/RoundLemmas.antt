-- What loops over bytes to be written keep.
use Rattle.std.proofs.Common.{◌≡◌, ℕ, zero, suc, ◌+◌, ◌<◌, ◌≤◌, true, false, Option, Some, None, List, [], ◌∷◌, ◌++◌}
use Rattle.std.proofs.Common.{length, drop, get_or, Result, Ok, Err, refl, sym, ap, ◌∙◌, arith, append_assoc}
use Rattle.std.proofs.Common.{length-drop, add-one, subst, eqb-true}
use Rattle.std.proofs.Math.Seq.{drop-cons}
use Rattle.std.proofs.lemmas.List.{append-nil, nil_from_length}
use Rattle.redo_step.specs.declared.printf.FormatPart.{FormatPart}
use Rattle.redo_step.specs.declared.printf.FormatPart.TheVariants.{Literal, Operand}
use Rattle.redo_step.specs.declared.sink.Sink.{Sink}
use Rattle.redo_step.specs.declared.halt.Halt.{Halt}
use Rattle.redo_step.specs.Setting.{Setting}
use Rattle.redo_step.specs.Runs.{End, ◌>>=◌, or_else, exited}
use Rattle.redo_step.specs.Files.{file_of, contents_of}
use Rattle.redo_step.specs.Formats.{takes_operands, once, again, formatted}
use Rattle.redo_step.specs.Outputs.{joined}
use Rattle.redo_record.specs.Answers.{Ask}
use Rattle.redo_record.specs.declared.deps.Dep.{Dep}
use Rattle.redo_step.specs.inside.Machine.{end_by, IsMeant}
use Rattle.redo_step.specs.inside.Printing.{HasPlaces, Prints, PrintsOnce}
use Rattle.redo_step.specs.inside.Sink.{Grows, Adds, Fills}
use Rattle.redo_step.specs.inside.Writing.{content_of}
use Rattle.redo_step.proofs.AddingLemmas.{grows-trans, adds-nil, adds-trans, adds-over, adds-same}
use Rattle.std.specs.Prelude.{◌==◌, option_map, OnSome}
use Rattle.redo_step.proofs.LoopLemmas.{stops_bind}

pub drop_split : {A : Type 0} (xs : List A) (i : ℕ) (x : A) → i < length xs → x ≡ get_or xs i x → drop i xs ≡ x ∷ drop (i + 1) xs
drop_split xs i x lt is = rw add-one (drop-cons xs i x lt ∙ ap (λ y. y ∷ drop (suc i) xs) (sym is))

pub drop_at : {A : Type 0} (xs : List A) (i : ℕ) (d x : A) → i < length xs → get_or xs i d ≡ x → drop i xs ≡ x ∷ drop (i + 1) xs
drop_at xs i d x lt is = rw add-one (drop-cons xs i d lt ∙ ap (λ y. y ∷ drop (suc i) xs) is)

pub drop_end : {A : Type 0} (xs : List A) (i : ℕ) → length xs ≤ i → drop i xs ≡ []
drop_end xs i le = nil_from_length (drop i xs) (simp length-drop (omega arith))

-- One round of printf: the bytes so far, and what is left to print gives the whole.
pub record Round (rest : List FormatPart) (left : List (List ℕ)) (whole : List ℕ × List (List ℕ)) (old new : Sink) : Type 0 where
  pub bytes : List ℕ
  pub adds : Adds bytes old new
  pub output : bytes ++ (once rest left).0 ≡ whole.0
  pub operands : (once rest left).1 ≡ whole.1

pub round_begins : (pieces : List FormatPart) (texts : List (List ℕ)) (s : Sink) → Round pieces texts (once pieces texts) s s
round_begins pieces texts s = record { bytes = []; adds = adds-nil s; output = refl; operands = refl }

pub round_literal : (b : ℕ) (ps : List FormatPart) (left : List (List ℕ)) (whole : List ℕ × List (List ℕ)) (old mid new : Sink) → Round (Literal b ∷ ps) left whole old mid → Adds (b ∷ []) mid new → Round ps left whole old new
round_literal b ps left whole old mid new r a = record {
  bytes = r.bytes ++ b ∷ [];
  adds = adds-trans r.bytes (b ∷ []) old mid new r.adds a;
  output = append_assoc r.bytes (b ∷ []) (once ps left).0 ∙ r.output;
  operands = r.operands;
}

pub round_operand : (t : List ℕ) (ts : List (List ℕ)) (ps : List FormatPart) (whole : List ℕ × List (List ℕ)) (old mid new : Sink) → Round (Operand ∷ ps) (t ∷ ts) whole old mid → Adds t mid new → Round ps ts whole old new
round_operand t ts ps whole old mid new r a = record {
  bytes = r.bytes ++ t;
  adds = adds-trans r.bytes t old mid new r.adds a;
  output = append_assoc r.bytes t (once ps ts).0 ∙ r.output;
  operands = r.operands;
}

pub round_none : (ps : List FormatPart) (whole : List ℕ × List (List ℕ)) (old new : Sink) → Round (Operand ∷ ps) [] whole old new → Round ps [] whole old new
round_none ps whole old new r = record { bytes = r.bytes; adds = r.adds; output = r.output; operands = r.operands }

pub round_done : (left : List (List ℕ)) (whole : List ℕ × List (List ℕ)) (old new : Sink) → Round [] left whole old new → PrintsOnce whole left old new
round_done left whole old new r = (adds-same r.bytes whole.0 old new (sym (append-nil r.bytes) ∙ r.output) r.adds, r.operands)

-- Rounds

pub once-none : (ps : List FormatPart) → (once ps []).1 ≡ []
once-none [] = refl
once-none (Literal b ∷ ps) = once-none ps
once-none (Operand ∷ ps) = once-none ps

pub once-shrinks : (ps : List FormatPart) (ts : List (List ℕ)) → length (once ps ts).1 ≤ length ts
once-shrinks [] ts = omega arith
once-shrinks (Literal b ∷ ps) ts = once-shrinks ps ts
once-shrinks (Operand ∷ ps) [] = once-shrinks ps []
once-shrinks (Operand ∷ ps) (t ∷ ts) = let h = once-shrinks ps ts in omega arith

pub once-takes : (ps : List FormatPart) (t : List ℕ) (ts : List (List ℕ)) → takes_operands ps ≡ true → length (once ps (t ∷ ts)).1 ≤ length ts
once-takes [] t ts h = absurd cc
once-takes (Literal b ∷ ps) t ts h = once-takes ps t ts h
once-takes (Operand ∷ ps) t ts h = once-shrinks ps ts

-- The rounds so far, and those that are left, give the whole.
pub record Rounds (pieces : List FormatPart) (left : List (List ℕ)) (whole : Option (List ℕ)) (old new : Sink) : Type 0 where
  pub bytes : List ℕ
  pub count : ℕ
  pub within : length left ≤ count
  pub places : HasPlaces pieces left
  pub adds : Adds bytes old new
  pub output : whole ≡ Some (bytes ++ again count pieces left)

has_places : (ps : List FormatPart) (ts : List (List ℕ)) → takes_operands ps ≡ true → HasPlaces ps ts
has_places ps [] h = tt
has_places ps (t ∷ ts) h = h

pub rounds_begin : (ps : List FormatPart) (ts left : List (List ℕ)) (old new : Sink) → HasPlaces ps ts → PrintsOnce (once ps ts) left old new → Rounds ps left (formatted ps ts) old new
rounds_begin ps [] left old new h p =
    let none : left ≡ [] = p.1 ∙ once-none ps in
    rw none (record { bytes = (once ps []).0; count = 0; within = omega arith; places = tt; adds = p.0; output = ap Some (sym (append-nil (once ps []).0)) })
rounds_begin ps (t ∷ ts) left old new h p =
    rw (p.1, h) (record { bytes = (once ps (t ∷ ts)).0; count = length ts; within = once-takes ps t ts h; places = has_places ps (once ps (t ∷ ts)).1 h; adds = p.0; output = refl })

pub rounds_go : (ps : List FormatPart) (t : List ℕ) (ts left : List (List ℕ)) (whole : Option (List ℕ)) (old mid new : Sink) → Rounds ps (t ∷ ts) whole old mid → PrintsOnce (once ps (t ∷ ts)) left mid new → Rounds ps left whole old new
rounds_go ps t ts left whole old mid new r p =
    (elim r.count as (λ (n : ℕ). length (t ∷ ts) ≤ n → whole ≡ Some (r.bytes ++ again n ps (t ∷ ts)) → Rounds ps left whole old new) [
      | zero ↦ λ w o. absurd (omega arith)
      | suc n ↦ λ w o. rw p.1 (record {
        bytes = r.bytes ++ (once ps (t ∷ ts)).0;
        count = n;
        within = let h = once-takes ps t ts r.places in omega arith;
        places = has_places ps (once ps (t ∷ ts)).1 r.places;
        adds = adds-trans r.bytes (once ps (t ∷ ts)).0 old mid new r.adds p.0;
        output = o ∙ ap Some (sym (append_assoc r.bytes (once ps (t ∷ ts)).0 (again n ps (once ps (t ∷ ts)).1)));
      })
    ]) r.within r.output

pub fewer_left : (ps : List FormatPart) (t : List ℕ) (ts left : List (List ℕ)) (whole : Option (List ℕ)) (old mid new : Sink) → Rounds ps (t ∷ ts) whole old mid → PrintsOnce (once ps (t ∷ ts)) left mid new → length left ≤ length ts
fewer_left ps t ts left whole old mid new r p = rw p.1 (once-takes ps t ts r.places)

again-none : (n : ℕ) (ps : List FormatPart) → again n ps [] ≡ []
again-none zero ps = refl
again-none (suc n) ps = refl

pub rounds_done : (ps : List FormatPart) (whole : Option (List ℕ)) (old new : Sink) → Rounds ps [] whole old new → Prints whole old new
rounds_done ps whole old new r = (r.bytes, r.output ∙ ap Some (ap (λ l. r.bytes ++ l) (again-none r.count ps) ∙ append-nil r.bytes), r.adds)

pub rounds_over : (ps : List FormatPart) (left : List (List ℕ)) (whole : Option (List ℕ)) (old new : Sink) → new.is_over ≡ true → Rounds ps left whole old new → Prints whole old new
rounds_over ps left whole old new over r = (r.bytes ++ again r.count ps left, r.output, adds-over r.bytes (again r.count ps left) old new over r.adds)

-- the same, where a slice holds the operands

module _ (ps : List FormatPart) (whole : Option (List ℕ)) (old mid new : Sink) where
  pub next_round : (vs : List (List ℕ)) (left : List (List ℕ)) → (length vs == 0) ≡ false → Rounds ps vs whole old mid → PrintsOnce (once ps vs) left mid new → Rounds ps left whole old new
  next_round [] left some r p = absurd cc
  next_round (v ∷ vs) left some r p = rounds_go ps v vs left whole old mid new r p

  pub round_takes : (vs us : List (List ℕ)) → (length vs == 0) ≡ false → Rounds ps vs whole old mid → PrintsOnce (once ps vs) us mid new → length us < length vs
  round_takes [] us some r p = absurd cc
  round_takes (v ∷ vs) us some r p =
      let fewer = fewer_left ps v vs us whole old mid new r p in
      omega arith

pub last_round : (ps : List FormatPart) (whole : Option (List ℕ)) (old new : Sink) (vs : List (List ℕ)) → (length vs == 0) ≡ true → Rounds ps vs whole old new → Prints whole old new
last_round ps whole old new [] none r = rounds_done ps whole old new r
last_round ps whole old new (v ∷ vs) none r = absurd (let e = eqb-true (length (v ∷ vs)) 0 none in omega arith)

-- Operands of echo

abbrev pub spaced : List (List ℕ) → List ℕ
spaced [] = []
spaced (t ∷ ts) = 32 ∷ (t ++ spaced ts)

pub joined-spaced : (t : List ℕ) (ts : List (List ℕ)) → joined (t ∷ ts) ≡ t ++ spaced ts
joined-spaced t [] = sym (append-nil t)
joined-spaced t (u ∷ ts) = ap (λ l. t ++ (32 ∷ l)) (joined-spaced u ts)

pub record Spaced (rest : List (List ℕ)) (whole : List ℕ) (old new : Sink) : Type 0 where
  pub bytes : List ℕ
  pub adds : Adds bytes old new
  pub output : bytes ++ spaced rest ≡ whole

pub spaced_begins : (texts : List (List ℕ)) (s : Sink) → Spaced texts (spaced texts) s s
spaced_begins texts s = record { bytes = []; adds = adds-nil s; output = refl }

pub spaced_goes : (t : List ℕ) (ts : List (List ℕ)) (whole : List ℕ) (old a b c : Sink) → Spaced (t ∷ ts) whole old a → Adds (32 ∷ []) a b → Adds t b c → Spaced ts whole old c
spaced_goes t ts whole old a b c s x y = record {
  bytes = s.bytes ++ (32 ∷ t);
  adds = adds-trans s.bytes (32 ∷ t) old a c s.adds (adds-trans (32 ∷ []) t a b c x y);
  output = append_assoc s.bytes (32 ∷ t) (spaced ts) ∙ s.output;
}

pub spaced_done : (whole : List ℕ) (old new : Sink) → Spaced [] whole old new → Adds whole old new
spaced_done whole old new s = adds-same s.bytes whole old new (sym (append-nil s.bytes) ∙ s.output) s.adds

-- Operands of cat

pub record Catted (setting : Setting) (ask : Ask) (es : List Dep) (line : ℕ) (rest : List (List ℕ)) (whole : Result (List ℕ) End) (old new : Sink) : Type 0 where
  pub bytes : List ℕ
  pub adds : Adds bytes old new
  pub meant : (contents_of setting ask es line rest >>= λ more. Ok (bytes ++ more)) ≡ whole

module _ (setting : Setting) (ask : Ask) (es : List Dep) (line : ℕ) where
  by_content : (r : Result (Option (List ℕ)) End) (f : List ℕ → Result (List ℕ) End) → (r >>= λ file. or_else (exited 1) file >>= f) ≡ ((r >>= or_else (exited 1)) >>= f)
  by_content (Ok None) f = refl
  by_content (Ok (Some bytes)) f = refl
  by_content (Err e) f = refl

  contents-cons : (t : List ℕ) (ts : List (List ℕ)) → contents_of setting ask es line (t ∷ ts) ≡ (content_of setting ask es line t >>= λ bytes. contents_of setting ask es line ts >>= λ more. Ok (bytes ++ more))
  contents-cons t ts = by_content (file_of setting ask es line t) (λ bytes. contents_of setting ask es line ts >>= λ more. Ok (bytes ++ more))

  pub catted_begins : (texts : List (List ℕ)) (s : Sink) → Catted setting ask es line texts (contents_of setting ask es line texts) s s
  catted_begins texts s = record { bytes = []; adds = adds-nil s; meant = (elim (contents_of setting ask es line texts) as (λ (r : Result (List ℕ) End). (r >>= λ more. Ok ([] ++ more)) ≡ r) [ Ok bytes ↦ refl | Err e ↦ refl ]) }

  regroup : (front bytes : List ℕ) (r : Result (List ℕ) End) → ((r >>= λ more. Ok (bytes ++ more)) >>= λ more. Ok (front ++ more)) ≡ (r >>= λ more. Ok ((front ++ bytes) ++ more))
  regroup front bytes (Ok more) = ap Ok (sym (append_assoc front bytes more))
  regroup front bytes (Err e) = refl

  pub catted_goes : (t : List ℕ) (ts : List (List ℕ)) (whole : Result (List ℕ) End) (old mid new : Sink) (x : Unit {0}) → Catted setting ask es line (t ∷ ts) whole old mid → Fills {X = Unit {0}} (Ok x) (content_of setting ask es line t) mid new → Catted setting ask es line ts whole old new
  catted_goes t ts whole old mid new x c f =
      let all : contents_of setting ask es line (t ∷ ts) ≡ (contents_of setting ask es line ts >>= λ more. Ok (f.0 ++ more)) = contents-cons t ts ∙ rw f.1 refl in
      record {
        bytes = c.bytes ++ f.0;
        adds = adds-trans c.bytes f.0 old mid new c.adds f.2;
        meant = sym (ap (λ r. r >>= λ more. Ok (c.bytes ++ more)) all ∙ regroup c.bytes f.0 (contents_of setting ask es line ts)) ∙ c.meant;
      }

  leaves : (end : Option End) (old mid new : Sink) → Grows old mid → OnSome end (Grows mid new) → OnSome end (Grows old new)
  leaves None old mid new g l = tt
  leaves (Some e) old mid new g l = grows-trans old mid new g l

  pub catted_stops : (t : List ℕ) (ts : List (List ℕ)) (whole : Result (List ℕ) End) (old mid new : Sink) (stop : Halt) → Catted setting ask es line (t ∷ ts) whole old mid → Fills {X = Unit {0}} (Err stop) (content_of setting ask es line t) mid new → Fills {X = Unit {0}} (Err stop) whole old new
  catted_stops t ts whole old mid new stop c f =
      let one = stops_bind (end_by stop) (content_of setting ask es line t) (λ bytes. contents_of setting ask es line ts >>= λ more. Ok (bytes ++ more)) f.0 in
      let P : Result (List ℕ) End → Type 0 = λ r. IsMeant (option_map Err (end_by stop)) r in
      let all = subst P (sym (contents-cons t ts)) one in
      (subst P c.meant (stops_bind (end_by stop) (contents_of setting ask es line (t ∷ ts)) (λ more. Ok (c.bytes ++ more)) all), leaves (end_by stop) old mid new c.adds.grows f.1)

  pub catted_done : (whole : Result (List ℕ) End) (old new : Sink) (x : Unit {0}) → Catted setting ask es line [] whole old new → Fills {X = Unit {0}} (Ok x) whole old new
  catted_done whole old new x c = (c.bytes, sym c.meant ∙ ap Ok (append-nil c.bytes), c.adds)
