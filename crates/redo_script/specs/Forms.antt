-- The forms of simple commands, by name, operands and redirection.
use Rattle.std.specs.Prelude.{ℕ, ◌+◌, ◌-◌, ◌*◌, Bool, true, false, ◌&&◌, ◌||◌, ◌==◌, nat_le, if◌then◌else◌, List, []}
use Rattle.std.specs.Prelude.{◌∷◌, ◌++◌, length, map, Option, Some, None, is_none, codes}
use Rattle.std.specs.Str.{bytes_eq}
use Rattle.redo_script.specs.Bytes.{is_digit, is_name}
use Rattle.redo_script.specs.Syntax.{byte, quoted, bare, named_quoted, named_bare, Word, Redirection, Test, is_file}
use Rattle.redo_script.specs.Syntax.{equal, differ, echo, printf, cat, Command, write, test, change, create, always}
use Rattle.redo_script.specs.Syntax.{always_true, always_false, exit, Condition, if_test, if_true, if_false}

-- a word of a command, and whether it is written with plain bytes only
pub record Item : Type 0 where
  pub is_plain : Bool
  pub word : Word

-- the words of operands
abbrev pub item_words : List Item → List Word
item_words items = map (λ i. i.word) items

-- the word is exactly these bytes, without a parameter
abbrev pub spells : Word → List ℕ → Bool
spells [] [] = true
spells [] (b ∷ bs) = false
spells (byte a ∷ w) [] = false
spells (byte a ∷ w) (b ∷ bs) = (a == b) && spells w bs
spells (quoted p ∷ w) bs = false
spells (bare p ∷ w) bs = false
spells (named_quoted n ∷ w) bs = false
spells (named_bare n ∷ w) bs = false

-- the word is this name, written with plain bytes only
abbrev pub is_named : List ℕ → Item → Bool
is_named name item = item.is_plain && spells item.word name

-- these bytes, then those of a word, if it has no parameter
abbrev pub literal_on : List ℕ → Word → Option (List ℕ)
literal_on bs [] = Some bs
literal_on bs (byte b ∷ w) = literal_on (bs ++ b ∷ []) w
literal_on bs (quoted p ∷ w) = None
literal_on bs (bare p ∷ w) = None
literal_on bs (named_quoted n ∷ w) = None
literal_on bs (named_bare n ∷ w) = None

-- these bytes, if they are a name
abbrev pub as_name : Option (List ℕ) → Option (List ℕ)
as_name None = None
as_name (Some bs) = if is_name bs then Some bs else None

-- the name that a word is, if it is one and is written with plain bytes only
abbrev pub name_of : Item → Option (List ℕ)
name_of item = if item.is_plain then as_name (literal_on [] item.word) else None

-- the name is one of these
abbrev pub is_bound : List (List ℕ) → List ℕ → Bool
is_bound [] name = false
is_bound (n ∷ names) name = bytes_eq n name || is_bound names name

-- each name in the word is one of these
abbrev pub knows_word : List (List ℕ) → Word → Bool
knows_word names [] = true
knows_word names (byte b ∷ w) = knows_word names w
knows_word names (quoted p ∷ w) = knows_word names w
knows_word names (bare p ∷ w) = knows_word names w
knows_word names (named_quoted n ∷ w) = is_bound names n && knows_word names w
knows_word names (named_bare n ∷ w) = is_bound names n && knows_word names w

-- each name in these operands is one of these
abbrev pub knows_items : List (List ℕ) → List Item → Bool
knows_items names [] = true
knows_items names (i ∷ items) = knows_word names i.word && knows_items names items

-- each name in the redirection's word is one of these
abbrev pub knows_redirection : List (List ℕ) → Option Redirection → Bool
knows_redirection names None = true
knows_redirection names (Some r) = knows_word names r.word

-- each name in these operands and this redirection is one of these
abbrev pub knows : List (List ℕ) → List Item → Option Redirection → Bool
knows names items r = knows_items names items && knows_redirection names r

-- the number spelled by n followed by these digits
abbrev pub digits_value : ℕ → Word → Option ℕ
digits_value n [] = Some n
digits_value n (byte b ∷ w) = if is_digit b then digits_value (10 * n + (b - 48)) w else None
digits_value n (quoted p ∷ w) = None
digits_value n (bare p ∷ w) = None
digits_value n (named_quoted name ∷ w) = None
digits_value n (named_bare name ∷ w) = None

-- the number, if it is at most `limit`
abbrev pub at_most : ℕ → Option ℕ → Option ℕ
at_most limit None = None
at_most limit (Some n) = if nat_le n limit then Some n else None

-- the status given to exit: one to three plain digits, at most 255
abbrev pub status_of : Item → Option ℕ
status_of item =
    if item.is_plain && nat_le 1 (length item.word) && nat_le (length item.word) 3
    then at_most 255 (digits_value 0 item.word)
    else None

-- exit with this status
abbrev pub option_exit : Option ℕ → Option Command
option_exit None = None
option_exit (Some n) = Some (exit n)

-- what test checks: -f W, W = W or W != W, where quotes are allowed in the operator
abbrev pub test_form : List Item → Option (Test Word)
test_form [] = None
test_form (a ∷ []) = None
test_form (a ∷ b ∷ []) = if spells a.word (codes "-f") then Some (is_file b.word) else None
test_form (a ∷ b ∷ c ∷ []) =
    if spells b.word (codes "=") then Some (equal a.word c.word)
    else if spells b.word (codes "!=") then Some (differ a.word c.word)
    else None
test_form (a ∷ b ∷ c ∷ d ∷ items) = None

-- test as a command
abbrev pub option_test : Option (Test Word) → Option Command
option_test None = None
option_test (Some t) = Some (test t)

-- printf W W*
abbrev pub print_form : List Item → Option Redirection → Option Command
print_form [] r = None
print_form (f ∷ items) r = Some (write (printf f.word (item_words items)) r)

-- cat W W*
abbrev pub cat_form : List Item → Option Redirection → Option Command
cat_form [] r = None
cat_form (i ∷ items) r = Some (write (cat (item_words (i ∷ items))) r)

-- a command without operands
abbrev pub lone : Command → List Item → Option Command
lone c [] = Some c
lone c (i ∷ items) = None

-- exit N
abbrev pub exit_form : List Item → Option Command
exit_form [] = None
exit_form (i ∷ []) = option_exit (status_of i)
exit_form (i ∷ j ∷ items) = None

-- the command of this name and operands that takes no redirection; none if the operands don't fit its form
abbrev pub bare_form : Item → List Item → Option Command
bare_form name items =
    if is_named (codes "test") name then option_test (test_form items)
    else if is_named (codes "redo-ifchange") name then Some (change (item_words items))
    else if is_named (codes "redo-ifcreate") name then Some (create (item_words items))
    else if is_named (codes "redo-always") name then lone always items
    else if is_named (codes "true") name then lone always_true items
    else if is_named (codes "false") name then lone always_false items
    else if is_named (codes "exit") name then exit_form items
    else None

-- the command of this name, operands and redirection; none if they don't fit its form
abbrev pub command_form : Item → List Item → Option Redirection → Option Command
command_form name items r =
    if is_named (codes "echo") name then Some (write (echo (item_words items)) r)
    else if is_named (codes "printf") name then print_form items r
    else if is_named (codes "cat") name then cat_form items r
    else if is_none r then bare_form name items
    else None

-- the command as a condition, if it may be one
abbrev pub option_condition : Option Command → Option Condition
option_condition None = None
option_condition (Some c) = elim c [
  | write w r ↦ None
  | test t ↦ Some (if_test t)
  | change ws ↦ None
  | create ws ↦ None
  | always ↦ None
  | always_true ↦ Some if_true
  | always_false ↦ Some if_false
  | exit n ↦ None
]

-- the condition of this name and operands; none if they don't fit its form
abbrev pub condition_form : Item → List Item → Option Condition
condition_form name items = option_condition (bare_form name items)
