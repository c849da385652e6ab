-- Integers (RFC 7541, section 5.1).
use Rattle.std.specs.Prelude.{ℕ, ◌+◌, ◌-◌, ◌*◌, ◌%◌, ◌^◌, zero, suc, List, [], ◌∷◌, Option, Some, None, if◌then◌else◌, nat_lt}

-- Further bytes of seven bits, the least first, up to so many of them: each is worth what is named, on
-- top of the number so far. The number stays below 2 ^ 32.
abbrev pub further : ℕ → ℕ → ℕ → List ℕ → Option (ℕ × List ℕ)
further zero worth n bytes = None
further (suc k) worth n [] = None
further (suc k) worth n (b ∷ bs) =
    if nat_lt b 128 then (if nat_lt (n + b * worth) (2 ^ 32) then Some (n + b * worth, bs) else None)
    else further k (worth * 128) (n + (b - 128) * worth) bs

-- The integer whose first bits are the lowest ones of the first byte, so many of them, and the bytes
-- after it. None where it is too large, has more than five further bytes, or isn't whole.
unfoldable pub integer_of : ℕ → List ℕ → Option (ℕ × List ℕ)
integer_of prefix [] = None
integer_of prefix (b ∷ bs) =
    if nat_lt (b % 2 ^ prefix) (2 ^ prefix - 1) then Some (b % 2 ^ prefix, bs) else further 5 1 (2 ^ prefix - 1) bs
