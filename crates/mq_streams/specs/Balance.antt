-- A send window: what was granted, less what was sent.
use Rattle.std.specs.Prelude.{◌≡◌, ℕ, ◌+◌, ℤ, pos, ◌+ℤ◌, Bool, nat_le}

-- the balance is the one amount less the other
abbrev pub IsBalance : ℤ → ℕ → ℕ → Type 0
IsBalance balance extended sent = (balance +ℤ pos sent) ≡ pos extended

-- a window that was given so much in all, with its initial size, and of which so much was sent, is within
-- 2,147,483,647 bytes (RFC 9113, section 6.9.1)
abbrev pub stays_within : ℕ → ℕ → Bool
stays_within given sent = nat_le given (sent + 2147483647)
