-- Why scripts were begun, one script more at a time.
use Rattle.std.proofs.Common.{◌≡◌, ◌∙◌, ◌+◌, ◌<◌, ℕ, Bool, true, false, List, [], ◌∷◌, ◌++◌, Option, Some, None, refl, sym, ap}
use Rattle.std.proofs.Common.{length, map, slice_index_or, take}
use Rattle.std.proofs.lemmas.List.{map-append, take_more}
use Rattle.std.specs.Map.{lookup}
use Rattle.std.specs.Option.{option_or}
use Rattle.std.specs.Prelude.{Vec, bytes_eq, cond, option_map, vec_items}
use Rattle.std.specs.declared.alloc.Global.{Global}
use Rattle.redo_explain.specs.declared.begun.Begun.{Begun}
use Rattle.redo_explain.specs.Views.{begun_view, reason_view}
use Rattle.redo_explain.specs.Words.{reason_words}
use Rattle.redo_tree.specs.Tree.{Tree}
use Rattle.redo_which.specs.Rule.{found_of}
use Rattle.redo_page.specs.Whole.{why_of}
use Rattle.redo_page.specs.inside.Whys.{AreWhys, whys_by}
use Rattle.redo_page.proofs.LinkLemmas.{looked-on}

map-or : {A B : Type 0} (f : A → B) (o r : Option A) → option_map f (option_or o r) ≡ option_or (option_map f o) (option_map f r)
map-or f None r = refl
map-or f (Some a) r = refl

map-cond : {A B : Type 0} (f : A → B) (b : Bool) (a : A) → option_map f (cond b (Some a) None) ≡ cond b (Some (f a)) None
map-cond f true a = refl
map-cond f false a = refl

-- the scripts so far, with one more
begun-more : (sources : Tree) (scripts : List Begun) (i : ℕ) (x : Begun) (q : List ℕ) → i < length scripts → x ≡ slice_index_or scripts i x →
    why_of sources (map begun_view (take (i + 1) scripts)) q
    ≡ option_or (why_of sources (map begun_view (take i scripts)) q)
    (cond (bytes_eq q x.target.now) (Some (reason_words (found_of sources) (reason_view x.reason))) None)
begun-more sources scripts i x q within is =
    let words = reason_words (found_of sources) in
    let before = map begun_view (take i scripts) in
    ap (λ l. why_of sources (map begun_view l) q) (take_more scripts i x within)
    ∙ ap (λ l. why_of sources l q) (map-append begun_view (take i scripts) (slice_index_or scripts i x ∷ []))
    ∙ ap (λ s. why_of sources (before ++ begun_view s ∷ []) q) (sym is)
    ∙ ap (option_map words) (looked-on q before (begun_view x))
    ∙ map-or words (lookup (bytes_eq q) before) (cond (bytes_eq q x.target.now) (Some (reason_view x.reason)) None)
    ∙ ap (option_or (why_of sources before q)) (map-cond words (bytes_eq q x.target.now) (reason_view x.reason))

-- the words of one script more
pub why-more : (sources : Tree) (scripts : List Begun) (i : ℕ) (x : Begun) (old new : List (List ℕ × Vec ℕ Global))
    (words : Vec ℕ Global) (q : List ℕ) → i < length scripts → x ≡ slice_index_or scripts i x →
    words.items ≡ reason_words (found_of sources) (reason_view x.reason) →
    whys_by old q ≡ why_of sources (map begun_view (take i scripts)) q →
    lookup (bytes_eq q) new ≡ option_or (lookup (bytes_eq q) old) (cond (bytes_eq q x.target.now) (Some words) None) →
    whys_by new q ≡ why_of sources (map begun_view (take (i + 1) scripts)) q
why-more sources scripts i x old new words q within is said are put =
    ap (option_map vec_items) put
    ∙ map-or vec_items (lookup (bytes_eq q) old) (cond (bytes_eq q x.target.now) (Some words) None)
    ∙ ap (λ o. option_or o (option_map vec_items (cond (bytes_eq q x.target.now) (Some words) None))) are
    ∙ ap (option_or (why_of sources (map begun_view (take i scripts)) q))
    (map-cond vec_items (bytes_eq q x.target.now) words
    ∙ ap (λ w. cond (bytes_eq q x.target.now) (Some w) None) said)
    ∙ sym (begun-more sources scripts i x q within is)

-- the same words, where what was passed is what is told of
pub same-whys : (tree sources : Tree) (these begun : List Begun) (links whys : List (List ℕ × Vec ℕ Global)) →
    links ≡ whys → AreWhys tree (map begun_view these) whys → tree ≡ sources → these ≡ begun →
    (path : List ℕ) → whys_by links path ≡ why_of sources (map begun_view begun) path
same-whys tree sources these begun links whys same are t b path =
    ap (λ (ws : List (List ℕ × Vec ℕ Global)). whys_by ws path) same ∙ are path
    ∙ ap (λ s. why_of s (map begun_view these) path) t ∙ ap (λ bs. why_of sources (map begun_view bs) path) b
