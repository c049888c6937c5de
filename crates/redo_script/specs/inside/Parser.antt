-- The parser of statements in contracts.
use Rattle.std.specs.Prelude.{◌+◌, ℕ, Bool, true, false, ◌&&◌, ◌||◌, nat_le, if◌then◌else◌, length, List, [], ◌∷◌}
use Rattle.std.specs.Prelude.{map, Option, None, option_map, codes}
use Rattle.std.specs.Str.{bytes_eq}
use Rattle.std.specs.Option.{is_none}
use Rattle.redo_script.specs.Syntax.{byte, Word, Condition, finish}
use Rattle.redo_script.specs.Forms.{at_most, digits_value, Item}
use Rattle.redo_script.specs.declared.item.Item.{Item as ItemTree}
use Rattle.redo_script.specs.declared.name.CommandName.{CommandName}
use Rattle.redo_script.specs.declared.partial.PartialCommand.{PartialCommand as PartialTree}
use Rattle.redo_script.specs.declared.ast.Condition.{Condition as ConditionTree}
use Rattle.redo_script.specs.declared.parser.Phase.{Phase as PhaseTree}
use Rattle.redo_script.specs.declared.open.OpenIf.{OpenIf}
use Rattle.redo_script.specs.declared.open.OpenLoop.{OpenLoop}
use Rattle.redo_script.specs.declared.open.Open.{Open as OpenTree}
use Rattle.redo_script.specs.declared.parser.Parser.{Parser as ParserTree}
use Rattle.redo_script.specs.Parsing.{PartialCommand, Open, open_if, open_loop, Parser, Phase, at_command, in_command}
use Rattle.redo_script.specs.Parsing.{behind_if, in_condition, before_then, behind_fi, behind_for, behind_name}
use Rattle.redo_script.specs.Parsing.{in_words, before_do, behind_done}
use Rattle.redo_script.specs.View.{symbols_of, words_of, redirection_of, condition_of, script_of}
use Rattle.redo_script.specs.declared.item.Item.TheVariants as items
use Rattle.redo_script.specs.declared.name.CommandName.TheVariants as names
use Rattle.redo_script.specs.declared.parser.Phase.TheVariants as phases
use Rattle.redo_script.specs.declared.open.Open.TheVariants as trees

-- a word of a command, as symbols
abbrev pub item_of : ItemTree → Item
item_of (items.Lent is_plain bytes) = record { is_plain = is_plain; word = map byte bytes.now }
item_of (items.Built is_plain parts) = record { is_plain = is_plain; word = symbols_of parts.items }

-- the spelling of a command's name
abbrev pub spelling_of : CommandName → List ℕ
spelling_of names.Echo = codes "echo"
spelling_of names.Printf = codes "printf"
spelling_of names.Cat = codes "cat"
spelling_of names.Test = codes "test"
spelling_of names.Change = codes "redo-ifchange"
spelling_of names.Create = codes "redo-ifcreate"
spelling_of names.Always = codes "redo-always"
spelling_of names.True = codes "true"
spelling_of names.False = codes "false"
spelling_of names.Exit = codes "exit"

-- the word that names a command, written with plain bytes only
abbrev pub word_named : CommandName → Item
word_named name = record { is_plain = true; word = map byte (spelling_of name) }

-- a word of plain bytes
abbrev pub plain_item : List ℕ → Item
plain_item bytes = record { is_plain = true; word = map byte bytes }

-- what was read of a command
abbrev pub partial_of : PartialTree → PartialCommand
partial_of b = record {
  line = b.line;
  name = word_named b.name;
  items = map item_of b.items.items;
  redirection = option_map redirection_of b.redirection;
  is_ill = b.is_ill;
  awaits = b.awaits;
}

-- the words that come next are operands
abbrev pub takes_operands : PartialCommand → Bool
takes_operands b = is_none b.awaits && is_none b.redirection

-- what is expected next, given the command that is being read, and the condition, the name and the words that were read
-- last
abbrev pub phase_of : PhaseTree → PartialTree → ConditionTree → List ℕ → List Word → Phase
phase_of phases.AtCommand b c name ws = at_command
phase_of phases.InCommand b c name ws = in_command (partial_of b)
phase_of (phases.BehindIf line) b c name ws = behind_if line
phase_of phases.InCondition b c name ws = in_condition (partial_of b)
phase_of (phases.BeforeThen line) b c name ws = before_then line (condition_of c)
phase_of (phases.BehindFi line) b c name ws = behind_fi line
phase_of (phases.BehindFor line) b c name ws = behind_for line
phase_of (phases.BehindName line) b c name ws = behind_name line name
phase_of (phases.InWords line) b c name ws = in_words line name ws
phase_of (phases.BeforeDo line) b c name ws = before_do line name ws
phase_of (phases.BehindDone line) b c name ws = behind_done line

-- an open if
abbrev pub open_if_of : OpenIf → Open
open_if_of o =
    open_if o.line (condition_of o.condition) (option_map (λ v. script_of v.items) o.first) (script_of o.before.items)

-- an open loop
abbrev pub open_loop_of : OpenLoop → Open
open_loop_of o = open_loop o.line o.name (words_of o.words.items) (script_of o.before.items)

-- an open if or loop
abbrev pub open_of : OpenTree → Open
open_of (trees.If o) = open_if_of o
open_of (trees.Loop o) = open_loop_of o

-- what is open, innermost first; the code has the innermost last
abbrev pub stack_onto : List Open → List OpenTree → List Open
stack_onto os [] = os
stack_onto os (x ∷ xs) = stack_onto (open_of x ∷ os) xs

-- the state of the parser
abbrev pub parser_of : ParserTree → Parser
parser_of p = record {
  phase = phase_of p.phase p.partial p.condition p.name (words_of p.words.items);
  opens = stack_onto [] p.opens.items;
  so_far = script_of p.so_far.items;
}

-- something else is expected next
abbrev pub with_phase : Parser → Phase → Parser
with_phase p phase = record p { phase = phase }

-- an if whose condition was read is open, and its first branch has no statement yet
abbrev pub if_begun : Parser → ℕ → Condition → Parser
if_begun p line c =
    record { phase = at_command; opens = open_if line c None p.so_far ∷ p.opens; so_far = finish }

-- the status of a number with this value and this many digits so far, which these symbols continue
abbrev pub status_on : ℕ → ℕ → Word → Option ℕ
status_on digits value w =
    if nat_le 1 (digits + length w) && nat_le (digits + length w) 3 then at_most 255 (digits_value value w) else None

-- the number of ifs among these
abbrev pub ifs_among : List OpenTree → ℕ
ifs_among [] = 0
ifs_among (trees.If o ∷ xs) = ifs_among xs + 1
ifs_among (trees.Loop o ∷ xs) = ifs_among xs

-- the number of loops among these
abbrev pub loops_among : List OpenTree → ℕ
loops_among [] = 0
loops_among (trees.If o ∷ xs) = loops_among xs
loops_among (trees.Loop o ∷ xs) = loops_among xs + 1

-- a loop among these binds the name
abbrev pub bound_among : List ℕ → List OpenTree → Bool
bound_among name [] = false
bound_among name (trees.If o ∷ xs) = bound_among name xs
bound_among name (trees.Loop o ∷ xs) = bytes_eq o.name name || bound_among name xs
