-- Aligned blocks of numbers.
use Rattle.std.specs.Prelude.{ℕ, ◌+◌, ◌*◌, ◌/◌, ◌^◌}

-- the first number behind the aligned block of so many bits that has this number
abbrev pub after : ℕ → ℕ → ℕ
after at bits = (at / 2 ^ bits + 1) * 2 ^ bits
