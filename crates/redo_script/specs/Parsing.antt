-- The script of a list of tokens, token by token, or the first fault: what may come next, and which fault anything else
-- is.
use Rattle.std.specs.Prelude.{ℕ, suc, Bool, true, false, ◌||◌, nat_lt, if◌then◌else◌, List, [], ◌∷◌, ◌++◌, length}
use Rattle.std.specs.Prelude.{Option, Some, None, Result, Ok, codes}
use Rattle.std.specs.Option.{is_some}
use Rattle.redo_script.specs.declared.fault.ScriptFault.{ScriptFault}
use Rattle.redo_script.specs.Faults.{◌>>=◌, fault_at}
use Rattle.redo_script.specs.Syntax.{Word, Redirection, Command, Condition, Script, finish, simple, choice, loop}
use Rattle.redo_script.specs.Tokens.{Token, word, semicolon, newline, redirect}
use Rattle.redo_script.specs.Forms.{Item, is_named, command_form, condition_form, name_of, is_bound, knows_word}
use Rattle.redo_script.specs.Forms.{knows}
use Rattle.redo_script.specs.declared.fault.Reason.TheVariants as reasons

-- what was read of a command: its line, name, operands and redirection
pub record PartialCommand : Type 0 where
  pub line : ℕ
  pub name : Item
  pub items : List Item
  pub redirection : Option Redirection
  -- something is where no form has it
  pub is_ill : Bool
  -- a redirection whose word comes next, and whether it appends
  pub awaits : Option Bool

-- what is expected next
pub data Phase : Type 0 where
  at_command : Phase
  in_command : PartialCommand → Phase
  behind_if : (line : ℕ) → Phase
  in_condition : PartialCommand → Phase
  before_then : (line : ℕ) → Condition → Phase
  behind_fi : (line : ℕ) → Phase
  behind_for : (line : ℕ) → Phase
  behind_name : (line : ℕ) → (name : List ℕ) → Phase
  in_words : (line : ℕ) → (name : List ℕ) → List Word → Phase
  before_do : (line : ℕ) → (name : List ℕ) → List Word → Phase
  behind_done : (line : ℕ) → Phase

-- What is open: an if with its line, and whether its else was read; or a loop with its line and its name.
pub data Opening : Type 0 where
  an_if : (line : ℕ) → (has_else : Bool) → Opening
  a_loop : (line : ℕ) → (name : List ℕ) → Opening

-- how many ifs are open around a command, and the names that loops bind there, innermost first
pub record Nest : Type 0 where
  pub ifs : ℕ
  pub names : List (List ℕ)

-- inside one more if
abbrev pub in_if : Nest → Nest
in_if n = record n { ifs = suc n.ifs }

-- inside one more loop
abbrev pub in_loop : List ℕ → Nest → Nest
in_loop name n = record n { names = name ∷ n.names }

-- outside all ifs and loops
abbrev pub outermost : Nest
outermost = record { ifs = 0; names = [] }

-- inside these, innermost first
abbrev pub nest_in : List Opening → Nest
nest_in [] = outermost
nest_in (an_if line has_else ∷ os) = in_if (nest_in os)
nest_in (a_loop line name ∷ os) = in_loop name (nest_in os)

-- What is open, with the statements before it: an if with its line, its condition and, once else was read, its first
-- branch; or a loop with its line, its name and its words.
pub data Open : Type 0 where
  open_if : (line : ℕ) → Condition → (first : Option Script) → (before : Script) → Open
  open_loop : (line : ℕ) → (name : List ℕ) → List Word → (before : Script) → Open

-- what is expected, what is open, innermost first, and the statements so far of the innermost part
pub record Parser : Type 0 where
  pub phase : Phase
  pub opens : List Open
  pub so_far : Script

-- there is no statement
abbrev pub is_empty : Script → Bool
is_empty finish = true
is_empty (simple l c rest) = false
is_empty (choice l c a b rest) = false
is_empty (loop l name ws body rest) = false

-- the second script after the first
abbrev pub with_last : Script → Script → Script
with_last finish s = s
with_last (simple l c rest) s = simple l c (with_last rest s)
with_last (choice l c a b rest) s = choice l c a b (with_last rest s)
with_last (loop l name ws body rest) s = loop l name ws body (with_last rest s)

-- an open if or loop without what was read of it
abbrev pub opening_of : Open → Opening
opening_of (open_if line c first before) = an_if line (is_some first)
opening_of (open_loop line name ws before) = a_loop line name

abbrev pub openings : List Open → List Opening
openings [] = []
openings (o ∷ os) = opening_of o ∷ openings os

-- how many ifs are open
abbrev pub ifs_in : List Open → ℕ
ifs_in os = (nest_in (openings os)).ifs

-- the names that the open loops bind
abbrev pub names_in : List Open → List (List ℕ)
names_in os = (nest_in (openings os)).names

-- the word is one of these names
abbrev pub is_one_of : List (List ℕ) → Item → Bool
is_one_of [] item = false
is_one_of (name ∷ names) item = is_named name item || is_one_of names item

-- the command names of the subset
abbrev pub commands : List (List ℕ)
commands =
    codes "echo" ∷ codes "printf" ∷ codes "cat" ∷ codes "test" ∷ codes "redo-ifchange" ∷ codes "redo-ifcreate"
    ∷ codes "redo-always" ∷ codes "true" ∷ codes "false" ∷ codes "exit" ∷ []

-- the reserved words that the subset leaves out
abbrev pub words_outside : List (List ℕ)
words_outside =
    codes "!" ∷ codes "elif" ∷ codes "while" ∷ codes "until" ∷ codes "case" ∷ codes "esac" ∷ []

-- the reserved words of a loop
abbrev pub loop_words : List (List ℕ)
loop_words = codes "for" ∷ codes "do" ∷ codes "done" ∷ []

-- the reserved words of an if after its condition
abbrev pub if_words : List (List ℕ)
if_words = codes "then" ∷ codes "else" ∷ codes "fi" ∷ []

-- the names of conditions
abbrev pub conditions : List (List ℕ)
conditions = codes "test" ∷ codes "true" ∷ codes "false" ∷ []

-- the fault of a name that no command of the subset has
abbrev pub name_fault : ℕ → Item → Result (List Item) ScriptFault
name_fault line item =
    if is_one_of commands item then Ok []
    else if is_one_of words_outside item then fault_at line reasons.Unsupported
    else fault_at line reasons.UnknownCommand

-- the result of a form, unless something is ill
abbrev pub or_shape : {A : Type 0} → ℕ → Bool → Option A → Result A ScriptFault
or_shape line true o = fault_at line reasons.Shape
or_shape line false None = fault_at line reasons.Shape
or_shape line false (Some x) = Ok x

-- a command whose name was read
abbrev pub begin_command : ℕ → Item → PartialCommand
begin_command line name =
    record { line = line; name = name; items = []; redirection = None; is_ill = false; awaits = None }

-- one more word of a command
abbrev pub with_word : PartialCommand → Item → PartialCommand
with_word b item = elim b.awaits [
  | Some appends ↦ record b { awaits = None; redirection = Some (record { appends = appends; word = item.word }) }
  | None ↦ elim b.redirection [ Some r ↦ record b { is_ill = true } | None ↦ record b { items = b.items ++ item ∷ [] } ]
]

-- a redirection of a command
abbrev pub with_redirect : PartialCommand → Bool → PartialCommand
with_redirect b appends = elim b.awaits [
  | Some a ↦ record b { is_ill = true }
  | None ↦ elim b.redirection [ Some r ↦ record b { is_ill = true } | None ↦ record b { awaits = Some appends } ]
]

-- a command that can't end here
abbrev pub is_unfinished : PartialCommand → Bool
is_unfinished b = b.is_ill || elim b.awaits [ Some a ↦ true | None ↦ false ]

-- what a command is, if each name in it is bound
abbrev pub if_known : {A : Type 0} → ℕ → Bool → A → Result A ScriptFault
if_known line true x = Ok x
if_known line false x = fault_at line reasons.Unsupported

-- the command that ends here, with these names bound
abbrev pub ended_command : List (List ℕ) → PartialCommand → Result Command ScriptFault
ended_command names b =
    or_shape b.line (is_unfinished b) (command_form b.name b.items b.redirection)
    >>= if_known b.line (knows names b.items b.redirection)

-- a condition has no redirection
abbrev pub no_redirection : Option Redirection → Option Condition → Option Condition
no_redirection None c = c
no_redirection (Some r) c = None

-- the condition that ends here, with these names bound
abbrev pub ended_condition : List (List ℕ) → PartialCommand → Result Condition ScriptFault
ended_condition names b =
    or_shape b.line (is_unfinished b) (no_redirection b.redirection (condition_form b.name b.items))
    >>= if_known b.line (knows names b.items b.redirection)

-- one more statement
abbrev pub with_command : Parser → PartialCommand → Result Parser ScriptFault
with_command p b = do
  c ← ended_command (names_in p.opens) b
  Ok (record p { phase = at_command; so_far = with_last p.so_far (simple b.line c finish) })

-- then must come next
abbrev pub with_condition : Parser → PartialCommand → Result Parser ScriptFault
with_condition p b = do
  c ← ended_condition (names_in p.opens) b
  Ok (record p { phase = before_then b.line c })

-- else, after commands in a first branch
abbrev pub at_else : Parser → ℕ → List Open → Result Parser ScriptFault
at_else p line [] = fault_at line reasons.IfShape
at_else p line (open_loop l name ws before ∷ os) = fault_at line reasons.IfShape
at_else p line (open_if l c (Some first) before ∷ os) = fault_at line reasons.IfShape
at_else p line (open_if l c None before ∷ os) =
    if is_empty p.so_far then fault_at line reasons.IfShape
    else Ok (record { phase = at_command; opens = open_if l c (Some p.so_far) before ∷ os; so_far = finish })

-- what comes before an if or a loop, followed by the if or loop with this last part
abbrev pub closed : Open → Script → Script
closed (open_if l c None before) branch = with_last before (choice l c branch finish finish)
closed (open_if l c (Some first) before) branch = with_last before (choice l c first branch finish)
closed (open_loop l name ws before) body = with_last before (loop l name ws body finish)

-- fi, after commands in its branch
abbrev pub at_fi : Parser → ℕ → List Open → Result Parser ScriptFault
at_fi p line [] = fault_at line reasons.IfShape
at_fi p line (open_loop l name ws before ∷ os) = fault_at line reasons.IfShape
at_fi p line (open_if l c first before ∷ os) =
    if is_empty p.so_far then fault_at line reasons.IfShape
    else Ok (record { phase = behind_fi line; opens = os; so_far = closed (open_if l c first before) p.so_far })

-- done, after commands in its loop
abbrev pub at_done : Parser → ℕ → List Open → Result Parser ScriptFault
at_done p line [] = fault_at line reasons.Shape
at_done p line (open_if l c first before ∷ os) = fault_at line reasons.Shape
at_done p line (open_loop l name ws before ∷ os) =
    if is_empty p.so_far then fault_at line reasons.Shape
    else Ok (record { phase = behind_done line; opens = os; so_far = closed (open_loop l name ws before) p.so_far })

-- if, inside at most 15 others
abbrev pub if_opened : Parser → ℕ → Result Parser ScriptFault
if_opened p line =
    if nat_lt (ifs_in p.opens) 16 then Ok (record p { phase = behind_if line }) else fault_at line reasons.TooDeep

-- for, inside at most one other
abbrev pub for_opened : Parser → ℕ → Result Parser ScriptFault
for_opened p line =
    if nat_lt (length (names_in p.opens)) 2 then Ok (record p { phase = behind_for line })
    else fault_at line reasons.TooDeep

-- a word in the place of a command
abbrev pub first_word : Parser → ℕ → Item → Result Parser ScriptFault
first_word p line item =
    if is_named (codes "if") item then if_opened p line
    else if is_named (codes "then") item then fault_at line reasons.IfShape
    else if is_named (codes "else") item then at_else p line p.opens
    else if is_named (codes "fi") item then at_fi p line p.opens
    else if is_named (codes "for") item then for_opened p line
    else if is_named (codes "do") item then fault_at line reasons.Shape
    else if is_named (codes "done") item then at_done p line p.opens
    else (name_fault line item >>= λ none. Ok (record p { phase = in_command (begin_command line item) }))

-- a word out of place; a reserved word of a loop is Shape on its own line
abbrev pub misplaced : {A : Type 0} → (line at : ℕ) → Item → Result A ScriptFault
misplaced line at item =
    if is_one_of loop_words item then fault_at at reasons.Shape else fault_at line reasons.IfShape

-- a word after if
abbrev pub condition_word : Parser → ℕ → ℕ → Item → Result Parser ScriptFault
condition_word p line at item =
    if is_one_of (codes "test" ∷ codes "true" ∷ codes "false" ∷ []) item
    then Ok (record p { phase = in_condition (begin_command line item) })
    else misplaced line at item

-- a word where then must be
abbrev pub then_word : Parser → ℕ → Condition → ℕ → Item → Result Parser ScriptFault
then_word p line c at item =
    if is_named (codes "then") item
    then Ok (record {
      phase = at_command;
      opens = open_if line c None p.so_far ∷ p.opens;
      so_far = finish;
    })
    else misplaced at at item

-- a loop's name, which isn't bound yet
abbrev pub loop_named : Parser → (line at : ℕ) → Option (List ℕ) → Result Parser ScriptFault
loop_named p line at None = fault_at at reasons.Shape
loop_named p line at (Some name) =
    if is_bound (names_in p.opens) name then fault_at at reasons.Shape
    else Ok (record p { phase = behind_name line name })

-- a word where in must be
abbrev pub words_begun : Parser → ℕ → List ℕ → Item → Result Parser ScriptFault
words_begun p line name item =
    if is_named (codes "in") item then Ok (record p { phase = in_words line name [] })
    else fault_at line reasons.Shape

-- one more word of a loop
abbrev pub loop_word : Parser → ℕ → List ℕ → List Word → Item → Result Parser ScriptFault
loop_word p line name ws item =
    if knows_word (names_in p.opens) item.word then Ok (record p { phase = in_words line name (ws ++ item.word ∷ []) })
    else fault_at line reasons.Unsupported

-- a word where do must be
abbrev pub do_word : Parser → ℕ → List ℕ → List Word → ℕ → Item → Result Parser ScriptFault
do_word p line name ws at item =
    if is_named (codes "do") item
    then Ok (record {
      phase = at_command;
      opens = open_loop line name ws p.so_far ∷ p.opens;
      so_far = finish;
    })
    else if is_one_of if_words item then fault_at at reasons.IfShape
    else fault_at at reasons.Shape

-- a word, by what is expected
abbrev pub a_word : Phase → Parser → ℕ → Item → Result Parser ScriptFault
a_word at_command p l item = first_word p l item
a_word (in_command b) p l item = Ok (record p { phase = in_command (with_word b item) })
a_word (behind_if line) p l item = condition_word p line l item
a_word (in_condition b) p l item = Ok (record p { phase = in_condition (with_word b item) })
a_word (before_then line c) p l item = then_word p line c l item
a_word (behind_fi line) p l item = misplaced line l item
a_word (behind_for line) p l item = loop_named p line l (name_of item)
a_word (behind_name line name) p l item = words_begun p line name item
a_word (in_words line name ws) p l item = loop_word p line name ws item
a_word (before_do line name ws) p l item = do_word p line name ws l item
a_word (behind_done line) p l item = fault_at line reasons.Shape

-- a redirection, by what is expected
abbrev pub a_redirect : Phase → Parser → ℕ → Bool → Result Parser ScriptFault
a_redirect at_command p l a = fault_at l reasons.Shape
a_redirect (in_command b) p l a = Ok (record p { phase = in_command (with_redirect b a) })
a_redirect (behind_if line) p l a = fault_at line reasons.IfShape
a_redirect (in_condition b) p l a = Ok (record p { phase = in_condition (with_redirect b a) })
a_redirect (before_then line c) p l a = fault_at l reasons.IfShape
a_redirect (behind_fi line) p l a = fault_at line reasons.IfShape
a_redirect (behind_for line) p l a = fault_at l reasons.Shape
a_redirect (behind_name line name) p l a = fault_at line reasons.Shape
a_redirect (in_words line name ws) p l a = fault_at l reasons.Shape
a_redirect (before_do line name ws) p l a = fault_at l reasons.Shape
a_redirect (behind_done line) p l a = fault_at line reasons.Shape

-- a separator; a newline may also come where no command is
abbrev pub a_separator : Phase → Parser → ℕ → Bool → Result Parser ScriptFault
a_separator at_command p l true = Ok p
a_separator at_command p l false = fault_at l reasons.Shape
a_separator (in_command b) p l is_newline = with_command p b
a_separator (behind_if line) p l is_newline = fault_at line reasons.IfShape
a_separator (in_condition b) p l is_newline = with_condition p b
a_separator (before_then line c) p l true = Ok p
a_separator (before_then line c) p l false = fault_at l reasons.IfShape
a_separator (behind_fi line) p l is_newline = Ok (record p { phase = at_command })
a_separator (behind_for line) p l is_newline = fault_at l reasons.Shape
a_separator (behind_name line name) p l is_newline = fault_at line reasons.Shape
a_separator (in_words line name ws) p l is_newline = Ok (record p { phase = before_do line name ws })
a_separator (before_do line name ws) p l true = Ok p
a_separator (before_do line name ws) p l false = fault_at l reasons.Shape
a_separator (behind_done line) p l is_newline = Ok (record p { phase = at_command })

-- one more token
abbrev pub next_token : Parser → Token → Result Parser ScriptFault
next_token p (word l is_plain w) = a_word p.phase p l (record { is_plain = is_plain; word = w })
next_token p (semicolon l) = a_separator p.phase p l false
next_token p (newline l) = a_separator p.phase p l true
next_token p (redirect l appends) = a_redirect p.phase p l appends

-- the script, if no if or loop is open
abbrev pub unless_open : List Open → Script → Result Script ScriptFault
unless_open [] script = Ok script
unless_open (open_if line c first before ∷ os) script = fault_at line reasons.IfShape
unless_open (open_loop line name ws before ∷ os) script = fault_at line reasons.Shape

-- the end of the tokens, by what is expected
abbrev pub end_by_phase : Phase → Parser → Result Script ScriptFault
end_by_phase at_command p = unless_open p.opens p.so_far
end_by_phase (in_command b) p = with_command p b >>= λ q. unless_open q.opens q.so_far
end_by_phase (behind_if line) p = fault_at line reasons.IfShape
end_by_phase (in_condition b) p = with_condition p b >>= λ q. fault_at b.line reasons.IfShape
end_by_phase (before_then line c) p = fault_at line reasons.IfShape
end_by_phase (behind_fi line) p = unless_open p.opens p.so_far
end_by_phase (behind_for line) p = fault_at line reasons.Shape
end_by_phase (behind_name line name) p = fault_at line reasons.Shape
end_by_phase (in_words line name ws) p = fault_at line reasons.Shape
end_by_phase (before_do line name ws) p = fault_at line reasons.Shape
end_by_phase (behind_done line) p = unless_open p.opens p.so_far

-- reading goes on to the last token
unfoldable pub parse_on : Parser → List Token → Result Script ScriptFault
parse_on p [] = end_by_phase p.phase p
parse_on p (t ∷ ts) = next_token p t >>= λ q. parse_on q ts

-- before the first token
abbrev pub at_first : Parser
at_first = record { phase = at_command; opens = []; so_far = finish }

-- the script of a list of tokens, or the first fault
unfoldable pub statements_of : List Token → Result Script ScriptFault
statements_of ts = parse_on at_first ts
