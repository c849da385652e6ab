-- What the live tunnels of a ledger stand for. Only the crate's own functions cite this.
use Rattle.std.specs.Prelude.{◌≡◌, ℕ, ◌+◌, ◌≤◌, ◌⊎◌, ◌==◌, false, IsTrue, List, [], ◌∷◌, ◌++◌, length, map, vec_capacity, Some, None}
use Rattle.std.specs.List.{All, Any}
use Rattle.mq_addr.specs.declared.addr.Addr.{Addr}
use Rattle.mq_addr.specs.declared.range.Range.{Range}
use Rattle.mq_addr.specs.declared.range.Flow.{Flow}
use Rattle.mq_addr.specs.Block.{IsIn}
use Rattle.mq_addr.specs.Ranges.{InRange, IsInside, Leads, ListsMeet}
use Rattle.mq_talk.specs.declared.book.Config.{Config}
use Rattle.mq_talk.specs.declared.book.Entry.{Entry}
use Rattle.mq_talk.specs.declared.book.Reply.{Reply}
use Rattle.mq_talk.specs.Config.{IsConfig, IsOurs}
use Rattle.mq_talk.specs.Judging.{GoesTo, HasNoOwner, Misses, IsVacant}
use Rattle.mq_talk.specs.declared.place.Place.TheVariants as place
use Rattle.mq_talk.specs.declared.place.Verdict.{Verdict}
use Rattle.mq_talk.specs.declared.place.Verdict.TheVariants.{Pass, Source, NoRoute}
use Rattle.mq_talk.specs.Book.{History, opening, closes, assigned, accepted, is_live, live_tunnels, held, ranges, routes, actor_of}
use Rattle.mq_talk.specs.declared.book.Call.{Call}
use Rattle.mq_talk.specs.Answers.{IsLegal, IsAnswer, recorded}
use Rattle.mq_book.specs.declared.tunnel.Tunnel.{Tunnel}
use Rattle.mq_book.specs.declared.ledger.Ledger.{Ledger}

-- the tunnel is live, and this is what the history says of it
pub record IsTunnel (h : History) (t : Tunnel) : Type 0 where
  pub live : IsTrue (is_live h t.number)
  pub actor_is : t.actor ≡ actor_of h t.number
  pub held_is : t.held ≡ held h t.number
  pub ranges_is : t.ranges ≡ ranges h t.number
  pub routes_is : t.routes ≡ routes h t.number

-- these are the live tunnels, in order
pub record AreLive (h : History) (tunnels : List Tunnel) : Type 0 where
  pub numbers : map (λ (t : Tunnel). t.number) tunnels ≡ live_tunnels h
  pub each : All (IsTunnel h) tunnels

-- the history is legal, its live tunnels are listed, and each has a place for its close
pub record Stands (l : Ledger) : Type 0 where
  pub config : IsConfig l.setup
  pub legal : IsLegal l.setup l.history.items
  pub live : AreLive l.history.items l.live.items
  pub few : length l.history.items + length l.live.items ≤ l.setup.history
  pub room : length l.history.items + length l.live.items ≤ vec_capacity l.history

-- a call was answered, and both were written
pub record IsAnswered (before after : Ledger) (actor : ℕ) (call : Call) (reply : Reply) : Type 0 where
  pub answer : IsAnswer before.setup before.history.items call reply
  pub history : after.history.items ≡ recorded before.history.items actor call reply
  pub setup : after.setup ≡ before.setup
  pub stands : Stands after

-- nothing was written
pub record Stays (before after : Ledger) : Type 0 where
  pub history : after.history.items ≡ before.history.items
  pub setup : after.setup ≡ before.setup
  pub stands : Stands after

-- what a tunnel is that an entry opens
pub record IsNew (h : History) (e : Entry) (t : Tunnel) : Type 0 where
  pub number_is : t.number ≡ length h
  pub actor_is : t.actor ≡ e.actor
  pub held_is : t.held ≡ []
  pub ranges_is : t.ranges ≡ []
  pub opens : opening e.call e.reply ≡ Some t.routes
  pub closes_none : (u : ℕ) → closes u e.call ≡ false
  pub assigns_none : (u : ℕ) → assigned u e.call e.reply ≡ None
  pub accepts_none : (u : ℕ) → accepted u e.call e.reply ≡ None

-- what an entry is that closes a tunnel and does nothing else
pub record IsClose (e : Entry) (number : ℕ) : Type 0 where
  pub closes_it : (u : ℕ) → closes u e.call ≡ (number == u)
  pub opens : opening e.call e.reply ≡ None
  pub assigns_none : (u : ℕ) → assigned u e.call e.reply ≡ None
  pub accepts_none : (u : ℕ) → accepted u e.call e.reply ≡ None

-- what an entry is that changes the tunnel at a place
pub record IsChange (h : History) (e : Entry) (old new : Tunnel) : Type 0 where
  pub number_is : new.number ≡ old.number
  pub now : IsTunnel (h ++ e ∷ []) new
  pub opens : opening e.call e.reply ≡ None
  pub closes_none : (u : ℕ) → closes u e.call ≡ false
  pub assigns_none : (u : ℕ) → (old.number ≡ u → ⊥) → assigned u e.call e.reply ≡ None
  pub accepts_none : (u : ℕ) → (old.number ≡ u → ⊥) → accepted u e.call e.reply ≡ None

-- a block or a range of the tunnel has the address
unfoldable pub Has : Tunnel → Addr → Type 0
Has t a = Any (λ g. IsIn g.block a) t.held ⊎ Any (λ r. InRange r a) t.ranges

-- clients may lead to all of the range
unfoldable pub IsReachable : Config → Range → Type 0
IsReachable config r = Any (λ block. IsInside r block) config.reach

-- the tunnel is this one, or leads to no address of the ranges
unfoldable pub IsClear : ℕ → List Range → Tunnel → Type 0
IsClear number offered t = (t.number ≡ number) ⊎ ¬ (ListsMeet offered t.ranges)

-- the tunnel has the target for this protocol, and a route that it was told has the source
abbrev pub Takes : Tunnel → Flow → Type 0
Takes t flow = (Any (λ g. IsIn g.block flow.target) t.held ⊎ Leads t.ranges flow.target flow.protocol) × Leads t.routes flow.source flow.protocol

abbrev pub IsToward : Tunnel → Flow → Verdict → Type 0
IsToward t flow (Pass (place.Tunnel u actor)) = (u ≡ t.number) × (actor ≡ t.actor) × Takes t flow
IsToward t flow (Pass place.Net) = ⊥
IsToward t flow NoRoute = ¬ (Takes t flow)
IsToward t flow Source = ⊥

-- what becomes of a packet whose source is its tunnel's and whose target is on a route
abbrev pub IsOnward : Config → History → Flow → Verdict → Type 0
IsOnward config h flow Source = ⊥
IsOnward config h flow NoRoute = Misses h flow ⊎ IsVacant config h flow
IsOnward config h flow (Pass (place.Tunnel u actor)) = GoesTo h flow u actor
IsOnward config h flow (Pass place.Net) = HasNoOwner h flow.target × ¬ (IsOurs config flow.target)
