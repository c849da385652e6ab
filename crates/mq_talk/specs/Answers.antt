-- What the book answers to a call after a history, and which histories are legal.
use Rattle.std.specs.Prelude.{◌≡◌, ◌≢◌, ℕ, ◌+◌, ◌^◌, ◌<◌, ◌≤◌, ◌⊎◌, IsTrue, List, [], ◌∷◌, ◌++◌, length, take, slice_index_or, Option, Some, None}
use Rattle.std.specs.Bool.{MatchBool}
use Rattle.std.specs.List.{Any, All}
use Rattle.mq_addr.specs.declared.addr.Addr.{Addr}
use Rattle.mq_addr.specs.declared.addr.Addr.TheVariants.{V4, V6}
use Rattle.mq_addr.specs.declared.prefix.Prefix.{Prefix}
use Rattle.mq_addr.specs.declared.entry.Asked.{Asked}
use Rattle.mq_addr.specs.declared.entry.Given.{Given}
use Rattle.mq_addr.specs.declared.range.Range.{Range}
use Rattle.mq_addr.specs.Block.{width, bits_of, IsPrefix}
use Rattle.mq_addr.specs.Cover.{version_of, IsFree, IsLeastFree}
use Rattle.mq_addr.specs.Ranges.{IsInside, IsOrdered, ListsMeet, IsMeet}
use Rattle.mq_talk.specs.declared.goal.Goal.{Goal}
use Rattle.mq_talk.specs.declared.goal.Goal.TheVariants as goal
use Rattle.mq_talk.specs.declared.book.Config.{Config}
use Rattle.mq_talk.specs.declared.book.Call.{Call}
use Rattle.mq_talk.specs.declared.book.Call.TheVariants.{Open, Assign, Advertise, Close}
use Rattle.mq_talk.specs.declared.book.Reply.{Reply}
use Rattle.mq_talk.specs.declared.book.Reply.TheVariants.{Opened, HistoryFull, Assigned, Accepted, Closed}
use Rattle.mq_talk.specs.declared.book.Entry.{Entry}
use Rattle.mq_talk.specs.Book.{History, is_live, live_tunnels, held, ranges, taken, actor_of}

-- the history has places for so many entries more, beside one for the close of each live tunnel
abbrev pub HasPlaces : Config → History → ℕ → Type 0
HasPlaces config h more = length h + length (live_tunnels h) + more ≤ config.history

-- what is told where it hasn't
pub record IsFull (config : Config) (h : History) (more entries live : ℕ) : Type 0 where
  pub full : config.history < length h + length (live_tunnels h) + more
  pub entries_are : entries ≡ length h
  pub live_are : live ≡ length (live_tunnels h)

-- a tunnel for UDP has no routes; one for IP has the configured ones, met with what its request asks for
abbrev pub IsRoutes : Config → Goal → List Range → Type 0
IsRoutes config (goal.Udp addr port) routes = routes ≡ []
IsRoutes config (goal.Ip area protocol) routes = IsMeet config.routes area protocol routes

-- what becomes of an asked block
pub data Outcome : Type 0 where
  Keeps Denies : Outcome
  Gives : Prefix → Outcome

-- the Request ID has a block
abbrev pub HasId : List Given → Asked → Type 0
HasId held a = Any (λ g. g.id ≡ a.id) held

-- the all-zero address asks for any block of the length
abbrev pub AsksForAny : Asked → Type 0
AsksForAny a = bits_of a.block.addr ≡ 0

-- the block that may be given: the least free one, or the one that is named if it is free; None where there is none
abbrev pub IsOffered : List Prefix → List Prefix → Asked → Option Prefix → Type 0
IsOffered pool taken a (Some block) =
    (AsksForAny a × IsLeastFree pool taken (version_of a.block.addr) a.block.length (Some block))
    ⊎ (¬ (AsksForAny a) × (block ≡ a.block) × IsFree pool taken a.block)
IsOffered pool taken a None =
    (AsksForAny a × IsLeastFree pool taken (version_of a.block.addr) a.block.length None)
    ⊎ (¬ (AsksForAny a) × ¬ (IsFree pool taken a.block))

-- A Request ID that has a block keeps it. Another is denied where 16 are held, or where nothing may be given.
abbrev pub IsOutcome : List Prefix → List Prefix → List Given → Asked → Outcome → Type 0
IsOutcome pool taken held a Keeps = HasId held a
IsOutcome pool taken held a Denies = ¬ (HasId held a) × ((16 ≤ length held) ⊎ ((length held < 16) × IsOffered pool taken a None))
IsOutcome pool taken held a (Gives block) = ¬ (HasId held a) × (length held < 16) × IsOffered pool taken a (Some block)

-- what a denied entry says: the all-zero address at its full length
abbrev pub zero : Addr → Addr
zero (V4 bits) = V4 0
zero (V6 bits) = V6 0

abbrev pub denial : Asked → Given
denial a = record { id = a.id; block = record { addr = zero a.block.addr; length = width a.block.addr } }

abbrev pub taken_by : Outcome → List Prefix
taken_by Keeps = []
taken_by Denies = []
taken_by (Gives block) = block ∷ []

abbrev pub given_by : Asked → Outcome → List Given
given_by a Keeps = []
given_by a Denies = []
given_by a (Gives block) = record { id = a.id; block = block } ∷ []

abbrev pub denied_by : Asked → Outcome → List Given
denied_by a Keeps = []
denied_by a Denies = denial a ∷ []
denied_by a (Gives block) = []

-- The entries of a request in order, of which earlier ones count as held: with these blocks taken and held, `given` are
-- added, and `denied` aren't.
abbrev pub AreTreated : List Prefix → List Prefix → List Given → List Asked → List Given → List Given → Type 0
AreTreated pool taken held [] given denied = (given ≡ []) × (denied ≡ [])
AreTreated pool taken held (a ∷ rest) given denied =
    (did : Outcome) × (more : List Given) × (others : List Given)
    × IsOutcome pool taken held a did
    × AreTreated pool (taken ++ taken_by did) (held ++ given_by a did) rest more others
    × (given ≡ given_by a did ++ more) × (denied ≡ denied_by a did ++ others)

-- what the tunnel holds, then what is denied
pub record IsAssigned (config : Config) (h : History) (t : ℕ) (asked : List Asked) (list : List Given) : Type 0 where
  pub given : List Given
  pub denied : List Given
  pub treated : AreTreated config.pool (taken h) (held h t) asked given denied
  pub list_is : list ≡ held h t ++ given ++ denied

-- each range lies in one block that clients may lead to, and has no address of a range of another live tunnel
pub record IsAcceptable (config : Config) (h : History) (t : ℕ) (offered : List Range) : Type 0 where
  pub inside : All (λ r. Any (λ block. IsInside r block) config.reach) offered
  pub apart : (u : ℕ) → IsTrue (is_live h u) → u ≢ t → ¬ (ListsMeet offered (ranges h u))

-- The answer to a call after a history. HistoryFull comes exactly where there is no place for the entry and the closes of the
-- live tunnels, that of a new one among them.
abbrev pub IsAnswer : Config → History → Call → Reply → Type 0
IsAnswer config h (Open conn stream actor goal) (Opened tunnel routes) = HasPlaces config h 2 × (tunnel ≡ length h) × IsRoutes config goal routes
IsAnswer config h (Open conn stream actor goal) (HistoryFull entries live) = IsFull config h 2 entries live
IsAnswer config h (Open conn stream actor goal) (Assigned list at) = ⊥
IsAnswer config h (Open conn stream actor goal) (Accepted taken_up at) = ⊥
IsAnswer config h (Open conn stream actor goal) Closed = ⊥
IsAnswer config h (Assign tunnel asked) (Assigned list at) = HasPlaces config h 1 × (at ≡ length h) × IsAssigned config h tunnel asked list
IsAnswer config h (Assign tunnel asked) (HistoryFull entries live) = IsFull config h 1 entries live
IsAnswer config h (Assign tunnel asked) (Opened u routes) = ⊥
IsAnswer config h (Assign tunnel asked) (Accepted taken_up at) = ⊥
IsAnswer config h (Assign tunnel asked) Closed = ⊥
IsAnswer config h (Advertise tunnel offered) (Accepted taken_up at) =
    HasPlaces config h 1 × (at ≡ length h) × MatchBool taken_up (IsAcceptable config h tunnel offered) (¬ (IsAcceptable config h tunnel offered))
IsAnswer config h (Advertise tunnel offered) (HistoryFull entries live) = IsFull config h 1 entries live
IsAnswer config h (Advertise tunnel offered) (Opened u routes) = ⊥
IsAnswer config h (Advertise tunnel offered) (Assigned list at) = ⊥
IsAnswer config h (Advertise tunnel offered) Closed = ⊥
IsAnswer config h (Close tunnel) Closed = Unit {0}
IsAnswer config h (Close tunnel) (Opened u routes) = ⊥
IsAnswer config h (Close tunnel) (HistoryFull entries live) = ⊥
IsAnswer config h (Close tunnel) (Assigned list at) = ⊥
IsAnswer config h (Close tunnel) (Accepted taken_up at) = ⊥

-- an asked block has a Request ID that isn't 0 and fits an integer of a capsule
pub record IsAsked (a : Asked) : Type 0 where
  pub not_zero : 1 ≤ a.id
  pub fits : a.id < 2 ^ 62
  pub prefix : IsPrefix a.block

-- the tunnel is live, and this actor opened it
pub record IsMine (h : History) (actor t : ℕ) : Type 0 where
  pub live : IsTrue (is_live h t)
  pub actor_is : actor_of h t ≡ actor

-- what a call needs of its actor after a history
abbrev pub MayCall : Config → History → ℕ → Call → Type 0
MayCall config h actor (Open conn stream names goal) = (actor < config.workers) × (names ≡ actor)
MayCall config h actor (Assign tunnel asked) =
    (actor < config.workers) × IsMine h actor tunnel × (1 ≤ length asked) × (length asked ≤ 16) × All IsAsked asked
MayCall config h actor (Advertise tunnel offered) = (actor < config.workers) × IsMine h actor tunnel × (length offered ≤ 32) × IsOrdered offered
MayCall config h actor (Close tunnel) = (actor < config.workers) × IsMine h actor tunnel

-- no entry is one that found no place
abbrev pub IsWritten : Reply → Type 0
IsWritten (HistoryFull entries live) = ⊥
IsWritten (Opened tunnel routes) = Unit {0}
IsWritten (Assigned list at) = Unit {0}
IsWritten (Accepted taken_up at) = Unit {0}
IsWritten Closed = Unit {0}

-- The history behind a call and its answer: the entry is its last, and what found no place isn't written.
abbrev pub recorded : History → ℕ → Call → Reply → History
recorded h actor call (HistoryFull entries live) = h
recorded h actor call (Opened tunnel routes) = h ++ record { actor = actor; call = call; reply = Opened tunnel routes } ∷ []
recorded h actor call (Assigned list at) = h ++ record { actor = actor; call = call; reply = Assigned list at } ∷ []
recorded h actor call (Accepted taken_up at) = h ++ record { actor = actor; call = call; reply = Accepted taken_up at } ∷ []
recorded h actor call Closed = h ++ record { actor = actor; call = call; reply = Closed } ∷ []

-- the entry may follow this history
pub record Follows (config : Config) (before : History) (e : Entry) : Type 0 where
  pub may : MayCall config before e.actor e.call
  pub answer : IsAnswer config before e.call e.reply
  pub written : IsWritten e.reply

-- each entry follows those before it
abbrev pub IsLegal : Config → History → Type 0
IsLegal config h = (p : ℕ) (d : Entry) → p < length h → Follows config (take p h) (slice_index_or h p d)
