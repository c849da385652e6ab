-- Where a part of the ring begins among connections.
use Rattle.std.specs.Prelude.{ℕ, ◌+◌, Bool, false, nat_lt, List, Option, position, slice_get}
use Rattle.std.specs.Option.{option_map_or}
use Rattle.mq_held.specs.declared.held.Held.{Held as HeldBy}
use Rattle.mq_actor.specs.Passing.{is_in_part}

-- the place of the first whose seat is in this part of the ring
abbrev pub first_place : {L : Type 0} → Bool → ℕ → List (HeldBy L) → Option ℕ
first_place {L} upper from hs = position (λ (h : HeldBy L). is_in_part upper from (h.number + 2)) hs

-- whether there is one at a place, and its seat is before this one
abbrev pub stands_before : {L : Type 0} → ℕ → List (HeldBy L) → ℕ → Bool
stands_before {L} from hs place =
    option_map_or (λ (h : HeldBy L). nat_lt (h.number + 2) from) (slice_get hs place) false
