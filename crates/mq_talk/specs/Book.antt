-- What a history says: each is a filter over the whole list of its entries.
use Rattle.std.specs.Prelude.{ℕ, ◌+◌, Bool, true, false, ◌&&◌, ◌==◌, not, cond, ◌⊎◌, IsTrue, List, [], length, drop, map, slice_get, Option, Some, None}
use Rattle.std.specs.Option.{unwrap_or}
use Rattle.std.specs.List.{filter, filter_map, flat_map, list_any, range_with_len, last_or, Any}
use Rattle.mq_addr.specs.declared.addr.Addr.{Addr}
use Rattle.mq_addr.specs.declared.prefix.Prefix.{Prefix}
use Rattle.mq_addr.specs.declared.entry.Given.{Given}
use Rattle.mq_addr.specs.declared.range.Range.{Range}
use Rattle.mq_addr.specs.Block.{bits_of, IsIn}
use Rattle.mq_addr.specs.Ranges.{InRange, Leads}
use Rattle.mq_talk.specs.declared.book.Call.{Call}
use Rattle.mq_talk.specs.declared.book.Call.TheVariants.{Open, Assign, Advertise, Close}
use Rattle.mq_talk.specs.declared.book.Reply.{Reply}
use Rattle.mq_talk.specs.declared.book.Reply.TheVariants.{Opened, HistoryFull, Assigned, Accepted, Closed}
use Rattle.mq_talk.specs.declared.book.Entry.{Entry}

abbrev pub History : Type 0
History = List Entry

-- an Open that was answered Opened opens a tunnel, with these routes
abbrev pub opening : Call → Reply → Option (List Range)
opening (Open conn stream actor goal) (Opened tunnel routes) = Some routes
opening (Open conn stream actor goal) (HistoryFull entries live) = None
opening (Open conn stream actor goal) (Assigned list at) = None
opening (Open conn stream actor goal) (Accepted taken_up at) = None
opening (Open conn stream actor goal) Closed = None
opening (Assign tunnel asked) reply = None
opening (Advertise tunnel ranges) reply = None
opening (Close tunnel) reply = None

-- the call closes this tunnel
abbrev pub closes : ℕ → Call → Bool
closes t (Close tunnel) = tunnel == t
closes t (Open conn stream actor goal) = false
closes t (Assign tunnel asked) = false
closes t (Advertise tunnel ranges) = false

-- what this tunnel was answered to an Assign
abbrev pub assigned : ℕ → Call → Reply → Option (List Given)
assigned t (Assign tunnel asked) (Assigned list at) = cond (tunnel == t) (Some list) None
assigned t (Assign tunnel asked) (Opened u routes) = None
assigned t (Assign tunnel asked) (HistoryFull entries live) = None
assigned t (Assign tunnel asked) (Accepted taken_up at) = None
assigned t (Assign tunnel asked) Closed = None
assigned t (Open conn stream actor goal) reply = None
assigned t (Advertise tunnel ranges) reply = None
assigned t (Close tunnel) reply = None

-- what this tunnel has by an Advertise: its ranges where they were accepted, else none
abbrev pub accepted : ℕ → Call → Reply → Option (List Range)
accepted t (Advertise tunnel ranges) (Accepted taken_up at) = cond (tunnel == t) (Some (cond taken_up ranges [])) None
accepted t (Advertise tunnel ranges) (Opened u routes) = None
accepted t (Advertise tunnel ranges) (HistoryFull entries live) = None
accepted t (Advertise tunnel ranges) (Assigned list at) = None
accepted t (Advertise tunnel ranges) Closed = None
accepted t (Open conn stream actor goal) reply = None
accepted t (Assign tunnel asked) reply = None
accepted t (Close tunnel) reply = None

-- the routes of a tunnel that this entry opened, if it opened one
abbrev pub opened_at : Option Entry → Option (List Range)
opened_at (Some e) = opening e.call e.reply
opened_at None = None

abbrev pub is_some_list : Option (List Range) → Bool
is_some_list (Some ranges) = true
is_some_list None = false

-- entry t is an Open that was answered Opened, and no later entry closes t
abbrev pub is_live : History → ℕ → Bool
is_live h t = is_some_list (opened_at (slice_get h t)) && not (list_any (λ e. closes t e.call) (drop (t + 1) h))

-- the numbers of the live tunnels, rising
abbrev pub live_tunnels : History → List ℕ
live_tunnels h = filter (λ t. is_live h t) (range_with_len 0 (length h))

-- the last of the answers, or the empty list
abbrev pub last_list : {X : Type 0} → List (List X) → List X
last_list lists = unwrap_or (last_or None lists) []

-- a denied entry has the all-zero address, which no block has that is given
abbrev pub is_given : Given → Bool
is_given g = not (bits_of g.block.addr == 0)

-- The blocks that a tunnel holds, with their Request IDs: each answer lists them all, in the order in which they were given,
-- so the last does.
abbrev pub held : History → ℕ → List Given
held h t = filter is_given (last_list (filter_map (λ e. assigned t e.call e.reply) h))

abbrev pub blocks : List Given → List Prefix
blocks list = map (λ (g : Given). g.block) list

-- the ranges of its last Advertise if they were accepted, else none
abbrev pub ranges : History → ℕ → List Range
ranges h t = last_list (filter_map (λ e. accepted t e.call e.reply) h)

-- the routes that it was told when it opened
abbrev pub routes : History → ℕ → List Range
routes h t = unwrap_or (opened_at (slice_get h t)) []

-- the actor of the entry that opened it
abbrev pub actor_at : Option Entry → ℕ
actor_at (Some e) = e.actor
actor_at None = 0

abbrev pub actor_of : History → ℕ → ℕ
actor_of h t = actor_at (slice_get h t)

-- all blocks that live tunnels hold
abbrev pub taken : History → List Prefix
taken h = flat_map (λ t. blocks (held h t)) (live_tunnels h)

-- a block of the tunnel has the address, or an accepted range of it has
abbrev pub HasAddr : History → ℕ → Addr → Type 0
HasAddr h t a = Any (λ g. IsIn g.block a) (held h t) ⊎ Any (λ r. InRange r a) (ranges h t)

-- the address is the tunnel's, whatever the protocol
pub record IsOwner (h : History) (t : ℕ) (a : Addr) : Type 0 where
  pub live : IsTrue (is_live h t)
  pub has : HasAddr h t a

-- the address is the tunnel's for this protocol: by a block, or by a range that allows the protocol
pub record Owns (h : History) (t : ℕ) (a : Addr) (protocol : ℕ) : Type 0 where
  pub live : IsTrue (is_live h t)
  pub has : Any (λ g. IsIn g.block a) (held h t) ⊎ Leads (ranges h t) a protocol
