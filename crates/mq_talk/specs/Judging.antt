-- Where a packet may go (RFC 9484, sections 4.7.1, 4.7.3 and 7).
use Rattle.std.specs.Prelude.{◌≡◌, ℕ, ◌⊎◌}
use Rattle.mq_addr.specs.declared.addr.Addr.{Addr}
use Rattle.mq_addr.specs.declared.range.Flow.{Flow}
use Rattle.mq_addr.specs.Ranges.{Leads}
use Rattle.mq_talk.specs.declared.place.Place.TheVariants as place
use Rattle.mq_talk.specs.declared.book.Config.{Config}
use Rattle.mq_talk.specs.declared.place.Origin.{Origin}
use Rattle.mq_talk.specs.declared.place.Origin.TheVariants as origin
use Rattle.mq_talk.specs.declared.place.Verdict.{Verdict}
use Rattle.mq_talk.specs.declared.place.Verdict.TheVariants.{Pass, Source, NoRoute}
use Rattle.mq_talk.specs.Book.{History, IsOwner, Owns, routes, actor_of}
use Rattle.mq_talk.specs.Config.{IsOurs}

-- no live tunnel has the address
abbrev pub HasNoOwner : History → Addr → Type 0
HasNoOwner h a = (u : ℕ) → ¬ (IsOwner h u a)

-- The target is the tunnel's for this protocol, and one of the routes that it was told has the source and allows the
-- protocol.
pub record Reaches (h : History) (flow : Flow) (u : ℕ) : Type 0 where
  pub owns : Owns h u flow.target flow.protocol
  pub routed : Leads (routes h u) flow.source flow.protocol

-- toward this tunnel, which this actor serves
pub record GoesTo (h : History) (flow : Flow) (u actor : ℕ) : Type 0 where
  pub reaches : Reaches h flow u
  pub actor_is : actor ≡ actor_of h u

-- the packet's source is its tunnel's
abbrev pub IsItsOwn : History → ℕ → Flow → Type 0
IsItsOwn h t flow = Owns h t flow.source flow.protocol

-- a route that its tunnel was told has the target and allows the protocol
abbrev pub IsRouted : History → ℕ → Flow → Type 0
IsRouted h t flow = Leads (routes h t) flow.target flow.protocol

-- the target has an owner that the packet doesn't reach
pub record Misses (h : History) (flow : Flow) : Type 0 where
  pub owner : ℕ
  pub is : IsOwner h owner flow.target
  pub misses : ¬ (Reaches h flow owner)

-- the target has no owner, but is an address that the proxy gives or leads to
pub record IsVacant (config : Config) (h : History) (flow : Flow) : Type 0 where
  pub no_owner : HasNoOwner h flow.target
  pub ours : IsOurs config flow.target

-- a source that doesn't come from the network: it has an owner, or is one that the proxy gives or leads to
abbrev pub IsInner : Config → History → Addr → Type 0
IsInner config h a = ((u : ℕ) × IsOwner h u a) ⊎ IsOurs config a

-- What is judged of a packet. From a tunnel: its source is its own, a route leads to its target, and it goes to the owner of
-- the target, or, where it has none and isn't the proxy's, to the network. From the network: its source isn't inside, and it
-- goes to the owner of its target.
abbrev pub IsJudged : Config → History → Origin → Flow → Verdict → Type 0
IsJudged config h (origin.Tunnel t) flow Source = ¬ (IsItsOwn h t flow)
IsJudged config h (origin.Tunnel t) flow NoRoute =
    IsItsOwn h t flow × (¬ (IsRouted h t flow) ⊎ (IsRouted h t flow × (Misses h flow ⊎ IsVacant config h flow)))
IsJudged config h (origin.Tunnel t) flow (Pass (place.Tunnel u actor)) = IsItsOwn h t flow × IsRouted h t flow × GoesTo h flow u actor
IsJudged config h (origin.Tunnel t) flow (Pass place.Net) =
    IsItsOwn h t flow × IsRouted h t flow × HasNoOwner h flow.target × ¬ (IsOurs config flow.target)
IsJudged config h origin.Net flow Source = IsInner config h flow.source
IsJudged config h origin.Net flow NoRoute = ¬ (IsInner config h flow.source) × ((u : ℕ) → ¬ (Reaches h flow u))
IsJudged config h origin.Net flow (Pass (place.Tunnel u actor)) = ¬ (IsInner config h flow.source) × GoesTo h flow u actor
IsJudged config h origin.Net flow (Pass place.Net) = ⊥
