-- The status of a response over HTTP/2 (RFC 9113, section 8.3.2; RFC 9110, section 15).
use Rattle.std.specs.Prelude.{ℕ, ◌+◌, ◌-◌, ◌*◌, ◌==◌, ◌&&◌, nat_le, Bool, List, [], ◌∷◌, codes, bytes_eq, find, count_by, option_and_then, Option, Some, None, if◌then◌else◌}
use Rattle.mq_hpack.specs.declared.field.Field.{Field}

unfoldable pub is_status : Field → Bool
is_status f = bytes_eq f.name (codes ":status")

abbrev pub is_digit : ℕ → Bool
is_digit b = nat_le 48 b && nat_le b 57

-- the number that three digits are
abbrev pub number_of : List ℕ → Option ℕ
number_of (a ∷ b ∷ c ∷ []) =
    if is_digit a && (is_digit b && is_digit c) then Some ((a - 48) * 100 + (b - 48) * 10 + (c - 48)) else None
number_of bytes = None

-- that of the one field `:status`
abbrev pub status_of : List Field → Option ℕ
status_of fields =
    if count_by is_status fields == 1 then option_and_then (λ f. number_of f.value) (find is_status fields) else None

-- the request succeeded, which opens the tunnel (RFC 9298, section 3.5)
abbrev pub is_successful : ℕ → Bool
is_successful status = nat_le 200 status && nat_le status 299
