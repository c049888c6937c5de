-- A text by the set of the paths whose scripts were begun.
use Rattle.std.proofs.Common.{◌≡◌, ◌∙◌, ℕ, Bool, List, ap}
use Rattle.redo_names.specs.Paths.{is_among}
use Rattle.redo_report.specs.declared.report.Row.{Row}
use Rattle.redo_short.specs.Short.{short_of, summary_of}

-- a text that hangs on rows and on which paths' scripts were begun, by the set, where what was passed is what is told
told : (text : List ℕ) (of : (List ℕ → Bool) → List Row → List ℕ) (set given begun : List (List ℕ)) (these rows : List Row) →
    text ≡ of (is_among set) these → ((path : List ℕ) → is_among set path ≡ is_among given path) →
    given ≡ begun → these ≡ rows → text ≡ of (is_among begun) rows
told text of set given begun these rows is has g r =
    is ∙ ap (λ (is_begun : List ℕ → Bool). of is_begun these) (λ i path. has path i)
    ∙ ap (λ ps. of (is_among ps) these) g ∙ ap (λ rs. of (is_among begun) rs) r

-- the same for the text of a report
pub told_short : (text : List ℕ) (set given begun : List (List ℕ)) (these rows : List Row) →
    text ≡ short_of (is_among set) these → ((path : List ℕ) → is_among set path ≡ is_among given path) →
    given ≡ begun → these ≡ rows → text ≡ short_of (is_among begun) rows
told_short text set given begun these rows is has g r = told text short_of set given begun these rows is has g r

-- and for its summary
pub told_summary : (text : List ℕ) (set given begun : List (List ℕ)) (these rows : List Row) →
    text ≡ summary_of (is_among set) these → ((path : List ℕ) → is_among set path ≡ is_among given path) →
    given ≡ begun → these ≡ rows → text ≡ summary_of (is_among begun) rows
told_summary text set given begun these rows is has g r = told text summary_of set given begun these rows is has g r
