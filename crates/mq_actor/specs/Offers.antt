-- Offered links whose numbers rise, and one whose link became another.
use Rattle.std.specs.Prelude.{ℕ, List, slice_get}
use Rattle.std.specs.Option.{option_map_or}
use Rattle.std.specs.VecDeque.{deque_with_item}
use Rattle.std.specs.declared.alloc.Global.{Global}
use Rattle.std.specs.declared.collections.VecDeque.{VecDeque}
use Rattle.mq_actor.specs.declared.offer.Offer.{Offer as OfferBy}
use Rattle.mq_actor.specs.Rising.{RiseBy}

-- each has a higher number than those before it
abbrev pub Rise : {L : Type 0} → List (OfferBy L) → Type 0
Rise {L} fs = RiseBy (λ (f : OfferBy L). f.number) fs

-- the offers with this link of the one at a place
abbrev pub with_link_at : {L : Type 0} → VecDeque (OfferBy L) Global → ℕ → L → VecDeque (OfferBy L) Global
with_link_at {L} fs place link =
    option_map_or (λ (f : OfferBy L). deque_with_item fs place (record f { link = link })) (slice_get fs.items place) fs
