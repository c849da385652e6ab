-- Classes of bytes in templates, paths and values.
use Rattle.std.specs.Prelude.{ℕ, Bool, true, false, not, ◌||◌, ◌==◌, List, [], ◌∷◌, codes}
use Rattle.std.specs.List.{list_any}
use Rattle.std.specs.Char.{is_ascii_alphanumeric}

-- letters, digits, `-`, `.` and `_`
unfoldable pub is_name_byte : ℕ → Bool
is_name_byte b = is_ascii_alphanumeric b || b == 45 || b == 46 || b == 95

-- and `~`: the unreserved bytes of RFC 3986, section 2.3
unfoldable pub is_unreserved : ℕ → Bool
is_unreserved b = is_name_byte b || b == 126

-- and what else may stand outside of variables
unfoldable pub is_literal : ℕ → Bool
is_literal b = is_unreserved b || list_any (λ c. c == b) (codes "/!$'()*+,;=:@&?")

-- letters, digits and `_`
unfoldable pub is_variable_byte : ℕ → Bool
is_variable_byte b = is_ascii_alphanumeric b || b == 95

-- `/`, `?` or `&`, with which begins what follows a variable
unfoldable pub is_delimiter : ℕ → Bool
is_delimiter b = b == 47 || b == 63 || b == 38

-- what a matched value is made of: all but `/`, `?`, `&` and `#`
unfoldable pub is_value_byte : ℕ → Bool
is_value_byte b = not (is_delimiter b || b == 35)

-- the text begins with a byte that passes the test
abbrev pub begins : (ℕ → Bool) → List ℕ → Bool
begins test [] = false
begins test (b ∷ bs) = test b

-- the text is empty or begins with such a byte
abbrev pub ends_or_begins : (ℕ → Bool) → List ℕ → Bool
ends_or_begins test [] = true
ends_or_begins test (b ∷ bs) = test b
