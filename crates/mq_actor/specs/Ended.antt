-- Which connections and offered links a step leaves in the ring, and which connection it keeps for `ended`.
use Rattle.std.specs.Prelude.{◌≡◌, ℕ, List, ◌++◌, map, remove, slice_get, Some, MatchOption}
use Rattle.mq_held.specs.declared.held.Held.{Held as HeldBy}
use Rattle.mq_actor.specs.declared.offer.Offer.{Offer as OfferBy}
use Rattle.mq_actor.specs.declared.ring.Ring.{Ring}

abbrev pub conn_numbers : {L : Type 0} → Ring L → List ℕ
conn_numbers {L} r = map (λ (h : HeldBy L). h.number) r.conns.items

abbrev pub offer_numbers : {L : Type 0} → Ring L → List ℕ
offer_numbers {L} r = map (λ (f : OfferBy L). f.number) r.offered.items

-- its connections, as they were accepted, and behind them its offered links
abbrev pub numbers_in : {L : Type 0} → Ring L → List ℕ
numbers_in r = conn_numbers r ++ offer_numbers r

-- of the connections with these numbers this one left the ring, and no other, and no link
pub record LeftAlone {L : Type 0} (conns offers : List ℕ) (held : HeldBy L) (s : Ring L) : Type 0 where
  pub place : ℕ
  pub was : slice_get conns place ≡ Some held.number
  pub others : numbers_in s ≡ remove conns place ++ offers

-- None left where none is kept; else the kept one did. The first offered link may be the last connection now.
abbrev pub AreLeft : {L : Type 0} → List ℕ → List ℕ → Ring L → Type 0
AreLeft {L} conns offers s =
    MatchOption s.ended (numbers_in s ≡ conns ++ offers) (λ (held : HeldBy L). LeftAlone conns offers held s)
