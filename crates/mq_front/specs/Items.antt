-- What is put into the list of what is due for the items of a data stream. Only the crate's own functions cite these words.
use Rattle.std.specs.Prelude.{◌≡◌, ℕ, ◌+◌, Bool, true, false, List, ◌++◌, Option, option_to_list}
use Rattle.std.specs.List.{list_any}
use Rattle.mq_capsule.specs.declared.item.Item.{Item}
use Rattle.mq_capsule.specs.declared.reader.Reader.{Reader}
use Rattle.mq_capsule.specs.Readers.{GivesItems, StandsOn}
use Rattle.mq_machine.specs.declared.act.Due.{Due}
use Rattle.mq_machine.specs.Reading.{item_acts, acts_of, payload_count, is_close, on_stream}
use Rattle.mq_front.specs.declared.items.Asked.{Asked}
use Rattle.mq_front.specs.declared.items.Carrier.{Carrier}
use Rattle.mq_front.specs.Limits.{AllMayAct}

-- what an item of this data stream asks for as payload n was put, and whether that closes the tunnel
abbrev pub PutsItem : Carrier → ℕ → Item → List Due → List Due → Bool → Type 0
PutsItem o n i old new closes =
    (new ≡ old ++ on_stream o.stream (item_acts o.kind o.mtu n i)) × (closes ≡ list_any is_close (item_acts o.kind o.mtu n i))
    × AllMayAct (item_acts o.kind o.mtu n i)

-- that, unless a close was asked for before
abbrev pub PutsUnless : Bool → Carrier → ℕ → Item → List Due → List Due → Bool → Type 0
PutsUnless true o n i old new closes = (new ≡ old) × (closes ≡ true)
PutsUnless false o n i old new closes = PutsItem o n i old new closes

-- what the items ask for from payload n on was put, the next payload is that, and a close is among it or isn't
abbrev pub PutsItems : Carrier → ℕ → List Item → List Due → List Due → ℕ → Bool → Type 0
PutsItems o n items old new next closes =
    (new ≡ old ++ on_stream o.stream (acts_of o.kind o.mtu n items)) × (next ≡ n + payload_count items)
    × (closes ≡ list_any is_close (acts_of o.kind o.mtu n items)) × AllMayAct (acts_of o.kind o.mtu n items)

-- what one more item asks for was put, where there is one, behind what those before it asked for
abbrev pub PutsMore : Carrier → Asked → Option Item → List Due → List Due → Asked → Type 0
PutsMore o asked told mid new more =
    (n : ℕ) (items : List Item) (old : List Due) → PutsItems o n items old mid asked.n asked.closes
    → PutsItems o n (items ++ option_to_list told) old new more.n more.closes

-- a piece of the data stream was read, and what its items ask for was put so
pub record ReadsItems (o : Carrier) (n : ℕ) (old new : Reader) (piece : List ℕ) (before after : List Due) (next : ℕ) (closes : Bool) : Type 0 where
  pub given : List Item
  pub gives : GivesItems old piece given
  pub stands : StandsOn old new piece
  pub puts : PutsItems o n given before after next closes
