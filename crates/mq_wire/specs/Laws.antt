-- Laws of variable-length integers (RFC 9000, section 16).
use Rattle.std.specs.Prelude.{◌≡◌, ℕ, ◌≤◌, List, ◌++◌, length, take, Some}
use Rattle.mq_wire.specs.Integer.{int_of, spelling_of}

-- whatever bytes are read as a number are at least as many as its spelling has
abbrev pub IsShortest : Type 0
IsShortest = (bytes : List ℕ) (n used : ℕ) → int_of bytes ≡ Some (n, used) → length (spelling_of n) ≤ used

-- an integer is read of its own bytes alone, whatever follows them
abbrev pub StandsAlone : Type 0
StandsAlone = (bytes more : List ℕ) (n used : ℕ) → int_of bytes ≡ Some (n, used) → int_of (take used bytes ++ more) ≡ Some (n, used)
