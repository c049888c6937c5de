use Rattle.std.proofs.Common.{◌≡◌, ◌∙◌, rules}
use Rattle.std.specs.Prelude.{is_ok}
use Rattle.redo_json.proofs.TextLemmas.{tells}
use Rattle.redo_json.proofs.paths.is_text.Goals as goal

pub returns : goal.returns
returns c =
    let told : c.is_ok.result ≡ is_ok c.from_utf8.result = search rules in
    told ∙ tells _ _ c.from_utf8.result c.args.bytes.now c.from_utf8.ensures.cases
