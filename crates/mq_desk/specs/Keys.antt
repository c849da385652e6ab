-- What a clause says of a desk and of its keys.
use Rattle.std.specs.Prelude.{◌≡◌, Result, Ok, Err, false}
use Rattle.mq_wire.specs.declared.NoMemory.{NoMemory}
use Rattle.mq_talk.specs.declared.book.Call.{Call}
use Rattle.mq_talk.specs.declared.book.Config.{Config}
use Rattle.mq_talk.specs.declared.book.Entry.{Entry}
use Rattle.mq_talk.specs.declared.book.Reply.{Reply}
use Rattle.mq_talk.specs.Book.{History}
use Rattle.mq_talk.specs.Answers.{recorded}
use Rattle.mq_talk.specs.Offices.{Seen}
use Rattle.mq_turn.specs.Passes.{PassOf, TurnOf, mine}
use Rattle.mq_desk.specs.Asks.{actor_of}

-- which desk it is, and the configuration of its book
abbrev pub DeskOf : Type 0
DeskOf = TurnOf Config

-- a key is a pass whose number is its actor's
abbrev pub KeyOf : Type 0
KeyOf = PassOf Entry Config

-- what an actor with this key has seen of a book with this configuration; there may be more
abbrev pub seen_by : Config → KeyOf → Seen
seen_by config key = record { actor = key.number; config = config; entries = key.seen; is_whole = false }

-- the entries of this key's actor
abbrev pub own_entries : KeyOf → History
own_entries key = mine actor_of key

-- of an actor's own entries, a call added its own alone, if it wrote one
abbrev pub AddsOwn : KeyOf → Call → Result Reply NoMemory → KeyOf → Type 0
AddsOwn old call (Ok reply) new = own_entries new ≡ recorded (own_entries old) old.number call reply
AddsOwn old call (Err refused) new = own_entries new ≡ own_entries old
