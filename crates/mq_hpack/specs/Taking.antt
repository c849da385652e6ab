-- What a representation that was read does: to the fields so far and to the table (RFC 7541, sections 3.2 and 6), and to
-- what the fields count (RFC 9113, section 6.5.2).
use Rattle.std.specs.Prelude.{◌≡◌, ℕ, ◌+◌, ◌<◌, ◌≤◌, List, [], ◌∷◌, ◌++◌, Result, Ok, Err}
use Rattle.mq_hpack.specs.declared.fault.HpackFault.{HpackFault}
use Rattle.mq_hpack.specs.declared.fault.HpackFault.TheVariants.{TooLarge}
use Rattle.mq_hpack.specs.declared.field.Field.{Field}
use Rattle.mq_hpack.specs.declared.representation.Representation.{Representation}
use Rattle.mq_hpack.specs.declared.representation.Representation.TheVariants.{Plain, Stored, SizeUpdate}
use Rattle.mq_hpack.specs.Table.{Table, size_of, with_field, with_limit}

-- a limit is one that a table may have
abbrev pub IsAllowed : Representation → Type 0
IsAllowed (SizeUpdate n) = n ≤ 4096
IsAllowed (Plain f) = Unit {0}
IsAllowed (Stored f) = Unit {0}

-- what the fields count with one more, where that isn't too much
abbrev pub IsGained : ℕ → Field → Result ℕ HpackFault → Type 0
IsGained total f (Ok sum) = (total + size_of f ≤ 16384) × (sum ≡ total + size_of f)
IsGained total f (Err fault) = (16384 < total + size_of f) × (fault ≡ TooLarge)

-- The representation leads from one table and fields to others, and the fields then count so much.
abbrev pub IsTaken : Representation → Table → Table → List Field → List Field → ℕ → Result ℕ HpackFault → Type 0
IsTaken (SizeUpdate n) t new before after total (Ok sum) = (new ≡ with_limit n t) × (after ≡ before) × (sum ≡ total)
IsTaken (SizeUpdate n) t new before after total (Err fault) = ⊥
IsTaken (Plain f) t new before after total (Ok sum) = (new ≡ t) × (after ≡ before ++ f ∷ []) × IsGained total f (Ok sum)
IsTaken (Plain f) t new before after total (Err fault) = IsGained total f (Err fault)
IsTaken (Stored f) t new before after total (Ok sum) = (new ≡ with_field f t) × (after ≡ before ++ f ∷ []) × IsGained total f (Ok sum)
IsTaken (Stored f) t new before after total (Err fault) = IsGained total f (Err fault)
