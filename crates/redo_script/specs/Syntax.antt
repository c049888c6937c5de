-- Scripts as contracts see them, however they are stored.
use Rattle.std.specs.Prelude.{ℕ, Bool, List, Option}
use Rattle.redo_script.specs.declared.ast.Parameter.{Parameter}

-- One symbol of a word: a literal byte, or a parameter in double quotes or outside quotes. A parameter is an argument
-- of the script or the value that a loop gives to a name.
pub data Symbol : Type 0 where
  byte : ℕ → Symbol
  quoted : Parameter → Symbol
  bare : Parameter → Symbol
  named_quoted : (name : List ℕ) → Symbol
  named_bare : (name : List ℕ) → Symbol

-- a word, symbol by symbol
abbrev pub Word : Type 0
Word = List Symbol

-- where a command's output goes: > word, or >> word
pub record Redirection : Type 0 where
  pub appends : Bool
  pub word : Word

-- What test checks, over words; a run has their values instead.
pub data Test (W : Type 0) : Type 0 where
  is_file : W → Test W
  equal : W → W → Test W
  differ : W → W → Test W

-- a command that writes
pub data Writer (W : Type 0) : Type 0 where
  echo : List W → Writer W
  printf : W → List W → Writer W
  cat : List W → Writer W

-- a simple command
pub data Command : Type 0 where
  write : Writer Word → Option Redirection → Command
  test : Test Word → Command
  change : List Word → Command
  create : List Word → Command
  always : Command
  always_true : Command
  always_false : Command
  exit : ℕ → Command

-- the command after if
pub data Condition : Type 0 where
  if_test : Test Word → Condition
  if_true : Condition
  if_false : Condition

-- Statements in order: each with its line, and what follows it.
pub data Script : Type 0 where
  finish : Script
  simple : (line : ℕ) → Command → (rest : Script) → Script
  choice : (line : ℕ) → Condition → (first second : Script) → (rest : Script) → Script
  loop : (line : ℕ) → (name : List ℕ) → List Word → (body : Script) → (rest : Script) → Script
