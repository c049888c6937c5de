-- Which texts are scripts, and the fault of each other one: the first in the first of the four passes that has any.
use Rattle.std.specs.Prelude.{◌≡◌, ◌⊎◌, ℕ, true, false, List, ◌∷◌, ◌++◌}
use Rattle.redo_script.specs.declared.fault.ScriptFault.{ScriptFault}
use Rattle.redo_script.specs.declared.ast.Script.{Script as ScriptTree}
use Rattle.redo_script.specs.Syntax.{Script}
use Rattle.redo_script.specs.View.{script_of}
use Rattle.redo_script.specs.Tokens.{Token}
use Rattle.redo_grammar.specs.Tokens.{AreTokens}
use Rattle.redo_script.specs.Texts.{has_no_nul, interpreter_is_fit}
use Rattle.redo_script.specs.Marks.{line_from}
use Rattle.redo_grammar.specs.Places.{StopsAtByte, StopsAtEnd}
use Rattle.redo_grammar.specs.Refusals.{in_line, FaultStands}
use Rattle.redo_grammar.specs.Grammar.{IsProgram}
use Rattle.redo_script.specs.declared.fault.Reason.TheVariants as reasons

-- The grammar of scripts: a text with this tree. Its interpreter line is a comment among its tokens.
pub record IsScript (text : List ℕ) (script : Script) : Type 0 where
  pub tokens : List Token
  pub no_nul : has_no_nul text ≡ true
  pub interpreter : interpreter_is_fit text ≡ true
  pub are_tokens : AreTokens text tokens
  pub statements : IsProgram tokens script

-- the fault is Nul, on the line of the first NUL byte
pub record NulStands (text : List ℕ) (fault : ScriptFault) : Type 0 where
  pub before : List ℕ
  pub after : List ℕ
  pub is : text ≡ before ++ 0 ∷ after
  pub is_first : has_no_nul before ≡ true
  pub fault_is : fault ≡ in_line (line_from 1 before) reasons.Nul

-- The text has this fault: of a NUL byte; else of its interpreter line; else of its tokens; else of its commands.
pub data IsRefused : List ℕ → ScriptFault → Type 0 where
  by_nul : {text : List ℕ} {fault : ScriptFault} → NulStands text fault → IsRefused text fault
  by_interpreter : {text : List ℕ} →
      has_no_nul text ≡ true → interpreter_is_fit text ≡ false → IsRefused text (in_line 1 reasons.Interpreter)
  by_tokens : {text : List ℕ} {fault : ScriptFault} →
      has_no_nul text ≡ true → interpreter_is_fit text ≡ true → StopsAtByte text fault ⊎ StopsAtEnd text fault →
      IsRefused text fault
  by_commands : {text : List ℕ} {ts : List Token} {fault : ScriptFault} →
      has_no_nul text ≡ true → interpreter_is_fit text ≡ true → AreTokens text ts → FaultStands ts fault →
      IsRefused text fault

-- what a tree that was read stands for
abbrev pub tree_of : ScriptTree → Script
tree_of tree = script_of tree.stmts.items

-- the text is a script, or has a fault
abbrev pub IsScriptOrRefused : List ℕ → Type 0
IsScriptOrRefused text = ((script : Script) × IsScript text script) ⊎ ((fault : ScriptFault) × IsRefused text fault)
