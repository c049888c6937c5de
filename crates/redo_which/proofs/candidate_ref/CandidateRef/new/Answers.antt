use Rattle.std.proofs.Common.{◌≡◌, ◌∙◌, ◌∷◌, ◌++◌, [], List, ℕ, ap, codes, subst, sym}
use Rattle.redo_path.specs.Names.{IsPath, child_of}
use Rattle.redo_which.specs.Candidates.{Place}
use Rattle.redo_which.specs.inside.Pieces.{spelled}
use Rattle.redo_which.proofs.PieceLemmas.{child_path, no_place, one_place, spelled-child}
use Rattle.redo_which.proofs.candidate_ref.CandidateRef.new.Goals as goal

pub returns-then-not-fits : goal.returns-then-not-fits
returns-then-not-fits c = no_place c.args.dir.now c.args.front.now c.args.suffix.now c.args.cut c.requires.part (sym c.fits.ensures ∙ c.if-not-fits.true)

pub invariant_of-result : goal.invariant_of-result
invariant_of-result c =
    let dir = c.args.dir.now in
    let front = c.args.front.now in
    let suffix = c.args.suffix.now in
    let whole : spelled dir c.args.prefix.now suffix ≡ child_of dir (front ++ suffix ++ codes ".do") = ap (λ prefix. spelled dir prefix suffix) c.requires.prefix ∙ spelled-child dir front suffix in
    record {
      is_dir = c.requires.path;
      is_path = subst IsPath (sym whole) (child_path dir front suffix c.requires.path c.requires.part (sym c.fits.ensures ∙ c.if-not-fits.false));
    }

pub returns : goal.returns
returns c =
    let dir = c.args.dir.now in
    let front = c.args.front.now in
    let suffix = c.args.suffix.now in
    let whole : spelled dir c.args.prefix.now suffix ≡ child_of dir (front ++ suffix ++ codes ".do") = ap (λ prefix. spelled dir prefix suffix) c.requires.prefix ∙ spelled-child dir front suffix in
    let places : List ℕ → List Place = λ path. record { do_file = path; dir = dir; cut = c.args.cut } ∷ [] in
    ap places whole ∙ one_place dir front suffix c.args.cut c.requires.part (sym c.fits.ensures ∙ c.if-not-fits.false)
