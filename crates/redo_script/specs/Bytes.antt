-- The bytes of a script by name, and their classes.
use Rattle.std.specs.Prelude.{ℕ, Bool, true, false, ◌&&◌, ◌||◌, ◌==◌, nat_le, List, [], ◌∷◌, codes}

-- the bytes that have a meaning, by name
abbrev pub tab : ℕ
tab = 9

abbrev pub newline : ℕ
newline = 10

abbrev pub space : ℕ
space = 32

abbrev pub bang : ℕ
bang = 33

abbrev pub double_quote : ℕ
double_quote = 34

abbrev pub hash : ℕ
hash = 35

abbrev pub dollar : ℕ
dollar = 36

abbrev pub single_quote : ℕ
single_quote = 39

abbrev pub semicolon : ℕ
semicolon = 59

abbrev pub greater : ℕ
greater = 62

abbrev pub backslash : ℕ
backslash = 92

abbrev pub underscore : ℕ
underscore = 95

abbrev pub backquote : ℕ
backquote = 96

-- 0 to 9
abbrev pub is_digit : ℕ → Bool
is_digit b = nat_le 48 b && nat_le b 57

-- an ASCII letter
abbrev pub is_letter : ℕ → Bool
is_letter b = (nat_le 97 b && nat_le b 122) || (nat_le 65 b && nat_le b 90)

-- a byte that a name may begin with
abbrev pub begins_name : ℕ → Bool
begins_name b = is_letter b || (b == underscore)

-- a byte that a name may continue with
abbrev pub continues_name : ℕ → Bool
continues_name b = begins_name b || is_digit b

-- one of these bytes
abbrev pub is_among : List ℕ → ℕ → Bool
is_among [] b = false
is_among (c ∷ cs) b = (b == c) || is_among cs b

-- a byte that is literal outside quotes
unfoldable pub is_plain : ℕ → Bool
is_plain b = is_letter b || is_digit b || is_among (codes "_-./+,:=@%!") b

-- a byte that only separates words
abbrev pub is_blank : ℕ → Bool
is_blank b = (b == space) || (b == tab)

-- a name may continue with every byte
abbrev pub all_continue : List ℕ → Bool
all_continue [] = true
all_continue (b ∷ bs) = continues_name b && all_continue bs

-- a name: a letter or `_`, then letters, digits and `_`
abbrev pub is_name : List ℕ → Bool
is_name [] = false
is_name (b ∷ bs) = begins_name b && all_continue bs
