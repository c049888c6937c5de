use Rattle.std.proofs.Common.{◌≡◌, ◌+◌, ◌++◌, ◌∷◌, ◌∙◌, [], ap, length}
use Rattle.std.specs.List.{flat_map}
use Rattle.redo_which.specs.Lines.{lines_of}
use Rattle.redo_which.proofs.LineLemmas.{lines-size, lines-split, sum-so}
use Rattle.redo_which.proofs.lines.MissingLines.size.Goals as goal

pub returns-clause-size : goal.returns-clause-size
returns-clause-size c =
    let front = c.self.inside.front.now in
    let first = c.in-Some.first in
    let rest = c.in-Some.rest in
    let same : front ≡ c.args.self.now.0 = ap (λ v. v.0) c.self.view_is ∙ c.keep.ensures.front in
    let held : c.self.inside.kept ≡ rest = ap (λ v. v.1) c.self.view_is ∙ c.in_ok-keep.ensures.kept in
    let behind : c.self.inside.text.items ≡ lines_of front rest = c.self.invariant ∙ ap (lines_of front) held in
    rw (← same) (sum-so c.add_sizes-2.result (c.in_ok-line.line + c.len.result) (length (flat_map (λ path. front ++ path ++ 10 ∷ []) c.args.missing.now))
    (λ sum is. lines-size front first.do_file (lines_of front rest) (flat_map (λ path. front ++ path ++ 10 ∷ []) c.args.missing.now) c.in_ok-line.line sum
    (lines-split front first rest c.args.missing.now c.in-Some.ensures.some)
    (c.in_ok-line.ensures.sum ∙ ap (λ n. length front + (n + 1)) c.size.ensures)
    (is ∙ ap (λ n. c.in_ok-line.line + n) (c.len.ensures ∙ c.self.inside.text.ok.0 ∙ ap length behind)))
    c.add_sizes-2.ensures.sum)
