-- Connections whose numbers rise, and one whose link became another.
use Rattle.std.specs.Prelude.{ℕ, ◌==◌, Bool, false, List, slice_get}
use Rattle.std.specs.Option.{option_map_or}
use Rattle.std.specs.Vec.{with_item}
use Rattle.std.specs.declared.alloc.Global.{Global}
use Rattle.std.specs.declared.vec.Vec.{Vec}
use Rattle.mq_held.specs.declared.held.Held.{Held as HeldBy}
use Rattle.mq_actor.specs.Rising.{RiseBy}

-- each has a higher number than those before it
abbrev pub NumbersRise : {L : Type 0} → List (HeldBy L) → Type 0
NumbersRise {L} hs = RiseBy (λ (h : HeldBy L). h.number) hs

-- whether there is one at a place, and it has this number
abbrev pub stands_at : {L : Type 0} → ℕ → List (HeldBy L) → ℕ → Bool
stands_at {L} number hs place = option_map_or (λ (h : HeldBy L). h.number == number) (slice_get hs place) false

-- the connections with this link of the one at a place
abbrev pub with_link_of : {L : Type 0} → Vec (HeldBy L) Global → ℕ → L → Vec (HeldBy L) Global
with_link_of {L} hs place link =
    option_map_or (λ (h : HeldBy L). with_item hs place (record h { link = link })) (slice_get hs.items place) hs
