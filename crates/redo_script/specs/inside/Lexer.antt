-- The lexer in contracts.
use Rattle.std.specs.Prelude.{ℕ, false, List, [], ◌++◌, map}
use Rattle.redo_script.specs.declared.token.Token.{Token as TokenTree}
use Rattle.redo_script.specs.declared.lexer.Lexer.{Lexer}
use Rattle.redo_script.specs.Syntax.{byte}
use Rattle.redo_script.specs.View.{symbols_of}
use Rattle.redo_script.specs.inside.Parser.{item_of}
use Rattle.redo_script.specs.Tokens.{Token, word, semicolon, newline, redirect}
use Rattle.redo_script.specs.Reading.{Reader, with_token, with_quote, with_begun_word}
use Rattle.redo_script.specs.declared.token.Token.TheVariants as trees
use Rattle.redo_script.specs.declared.lexer.Mode.TheVariants as modes

-- a token, with its word as symbols
abbrev pub token_of : TokenTree → Token
token_of (trees.Word line item) = word line (item_of item).is_plain (item_of item).word
token_of (trees.Semicolon line) = semicolon line
token_of (trees.Newline line) = newline line
token_of (trees.Redirect line appends) = redirect line appends

-- the state of the lexer
abbrev pub reader_of : Lexer → Reader
reader_of l = record {
  mode = l.mode;
  line = l.line;
  opened = l.opened;
  word_line = l.word_line;
  is_plain = l.is_plain;
  is_number = l.is_number;
  word = symbols_of l.parts.items ++ map byte l.literal.items;
  name = l.name.items;
  tokens = map token_of l.tokens.items;
}

-- no token is left
abbrev pub with_no_tokens : Reader → Reader
with_no_tokens r = record r { tokens = [] }

-- the lexer on another line
abbrev pub at_line : Lexer → ℕ → Lexer
at_line l n = record l { line = n }

-- a word that is one pair of quotes around these bytes, then a place between words
abbrev pub with_quoted : Reader → List ℕ → Reader
with_quoted r bytes = with_token (with_quote (with_begun_word r) modes.Single) (word r.line false (map byte bytes))
