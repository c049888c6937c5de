-- What a part of a word adds to its value.
use Rattle.std.specs.Prelude.{ℕ, List, Option, Some, None, if◌then◌else◌}
use Rattle.redo_script.specs.declared.ast.Parameter.{Parameter}
use Rattle.redo_script.specs.declared.ast.Part.{Part}
use Rattle.redo_script.specs.declared.ast.Part.TheVariants as parts
use Rattle.redo_step.specs.Value.{is_fit}

-- these bytes, if they may stand outside quotes
abbrev pub fit : List ℕ → Option (List ℕ)
fit bytes = if is_fit bytes then Some bytes else None

-- what a part adds to a value; none if it isn't fit
abbrev pub added : (Parameter → List ℕ) → (List ℕ → List ℕ) → Part → Option (List ℕ)
added parameters names (parts.Lit bytes) = Some bytes
added parameters names (parts.Quoted p) = Some (parameters p)
added parameters names (parts.Bare p) = fit (parameters p)
added parameters names (parts.NamedQuoted n) = Some (names n)
added parameters names (parts.NamedBare n) = fit (names n)

-- these bytes, if they may not stand outside quotes
abbrev pub unfit : List ℕ → Option (List ℕ)
unfit bytes = if is_fit bytes then None else Some bytes

-- what a part stands for, if it is outside quotes and that isn't fit
abbrev pub unfit_part : (Parameter → List ℕ) → (List ℕ → List ℕ) → Part → Option (List ℕ)
unfit_part parameters names (parts.Lit bytes) = None
unfit_part parameters names (parts.Quoted p) = None
unfit_part parameters names (parts.Bare p) = unfit (parameters p)
unfit_part parameters names (parts.NamedQuoted n) = None
unfit_part parameters names (parts.NamedBare n) = unfit (names n)
