-- What a connection's write and read give, as its link answers: with what the link told, or, where it told nothing, with some
-- contents.
use Rattle.std.specs.Prelude.{◌≡◌, ◌≢◌, ⊤, ◌⊎◌, ℕ, Bool, true, false, List, [], ◌∷◌, length, take, drop, Option, Some, None, Result, Ok, Err}
use Rattle.mq_wire.specs.declared.NoMemory.{NoMemory}
use Rattle.mq_outside.specs.Counts.{risen, LinkCounts}
use Rattle.mq_outside.specs.Links.{LinkPast, taken_of, room_left, behind, and_then, marked}
use Rattle.mq_talk.specs.declared.note.Note.{Note}
use Rattle.mq_talk.specs.declared.note.Note.TheVariants as note
use Rattle.mq_talk.specs.Mails.{IsTold}
use Rattle.mq_machine.specs.declared.setup.Setup.{Setup}
use Rattle.mq_machine.specs.State.{Conn, Link, owed}
use Rattle.mq_machine.specs.Steps.{can_read, wrote, finished, failed, starved}
use Rattle.mq_machine.specs.Reading.{TookNext, EndsThere}
use Rattle.mq_machine.specs.Turn.{has_room_for, most_read}
use Rattle.mq_held.specs.Ready.{CanTake}
use Rattle.mq_held.specs.Notes.{WentWith, Waits, Failed, Did, Noteless}

-- a link before and behind a call: what it holds, and what it gave and took, as it tells these, with its counts
pub record Calls : Type 0 where
  pub holds : Option Link
  pub after : Option Link
  pub past : LinkPast
  pub past_after : LinkPast
  pub counts : LinkCounts
  pub counts_after : LinkCounts

-- the same of a link, with what its trait says that it tells
abbrev pub calls_of : {L : Type 0} → (L → Option Link) → (L → LinkPast) → (L → LinkCounts) → (old new : L) → Calls
calls_of holds past counts old new =
    record { holds = holds old; after = holds new; past = past old; past_after = past new; counts = counts old; counts_after = counts new }

-- the link wasn't called
pub record IsUncalled (c : Calls) : Type 0 where
  pub holds : c.after ≡ c.holds
  pub past : c.past_after ≡ c.past
  pub counts : c.counts_after ≡ c.counts

-- ---- writes; what one adds to the link's past is told apart, by its note (WritesPast)

-- a link that tells it takes nothing now
abbrev pub TakesNothing : Option Link → Type 0
TakesNothing None = ⊤
TakesNothing (Some link) = (link.write_fails ≡ false) × (link.room ≡ Some 0)

-- it was asked, and takes nothing now
pub record WriteAsked (c : Calls) : Type 0 where
  pub nothing : TakesNothing c.holds
  pub holds : c.after ≡ c.holds
  pub counts : c.counts_after ≡ record c.counts { write_waits = risen c.counts.write_waits }

-- nothing was written: nothing is owed, or the link takes nothing now
abbrev pub WriteWaits : Calls → Conn → Type 0
WriteWaits c s = ((owed s ≡ []) × IsUncalled c) ⊎ ((owed s ≢ []) × WriteAsked c)

-- what is owed was written, as much as the link took
pub record WriteDoes (c : Calls) (s : Conn) (said : Note) (t : Conn) : Type 0 where
  pub link : Link
  pub told : IsTold c.holds link
  pub works : link.write_fails ≡ false
  pub room : has_room_for link.room ≡ true
  pub some : owed s ≢ []
  pub does : wrote s (taken_of link.room (length (owed s))) ≡ (said, t)
  pub tells : IsTold c.after (record link { room = room_left link.room (taken_of link.room (length (owed s))) })
  pub untold : c.holds ≡ None → c.after ≡ None
  pub counts : c.counts_after ≡ c.counts

-- a link that tells it fails the write, once
abbrev pub FailsWrite : Option Link → Option Link → Type 0
FailsWrite None after = after ≡ None
FailsWrite (Some link) after = (link.write_fails ≡ true) × (after ≡ Some (record link { write_fails = false }))

pub record WriteFails (c : Calls) (s : Conn) : Type 0 where
  pub some : owed s ≢ []
  pub fails : FailsWrite c.holds c.after
  pub counts : c.counts_after ≡ record c.counts { faults = risen c.counts.faults }

-- What a write gives, and for which state the connection stands then. Memory is taken before the link is called, and only where
-- the link could be written to.
abbrev pub WriteGives : Calls → (Conn → Type 0) → Conn → Result WentWith NoMemory → Type 0
WriteGives c stands s (Ok Waits) = WriteWaits c s × stands s
WriteGives c stands s (Ok Failed) = WriteFails c s × stands (failed s)
WriteGives c stands s (Ok (Did said)) = (t : Conn) × WriteDoes c s said t × stands t
WriteGives c stands s (Ok Noteless) = ⊥
WriteGives c stands s (Err refused) = (owed s ≢ []) × CanTake c.holds × IsUncalled c × stands (starved s)

-- The bytes of the note are those that the link took, where it tells that; with no such note it took none.
abbrev pub WritesPast : LinkPast → LinkPast → Result WentWith NoMemory → Type 0
WritesPast old new (Ok (Did (note.Wrote conn bytes))) = new ≡ record old { took = and_then old.took bytes }
WritesPast old new answer = new ≡ old

-- ---- reads

-- a link that tells it has nothing to read now
abbrev pub GivesNothing : Option Link → Type 0
GivesNothing None = ⊤
GivesNothing (Some link) = (link.read_fails ≡ false) × (link.pieces ≡ []) × (link.is_ended ≡ false)

pub record ReadAsked (c : Calls) : Type 0 where
  pub nothing : GivesNothing c.holds
  pub holds : c.after ≡ c.holds
  pub past : c.past_after ≡ c.past
  pub counts : c.counts_after ≡ record c.counts { read_waits = risen c.counts.read_waits }

-- nothing was read: it reads nothing now, or nothing is there
abbrev pub ReadWaits : Calls → Conn → Type 0
ReadWaits c s = ((can_read s ≡ false) × IsUncalled c) ⊎ ((can_read s ≡ true) × ReadAsked c)

-- a piece was taken from a link, as much of it as one read takes
pub record TakesPiece (c : Calls) (piece : List ℕ) : Type 0 where
  pub link : Link
  pub first : List ℕ
  pub others : List (List ℕ)
  pub told : IsTold c.holds link
  pub works : link.read_fails ≡ false
  pub pieces : link.pieces ≡ first ∷ others
  pub piece_is : piece ≡ take most_read first
  pub tells : IsTold c.after (record link { pieces = behind (drop most_read first) others })
  pub untold : c.holds ≡ None → c.after ≡ None
  pub past : c.past_after ≡ record c.past { gave = and_then c.past.gave piece }
  pub counts : c.counts_after ≡ c.counts

-- the link has ended
pub record TakesEnd (c : Calls) : Type 0 where
  pub link : Link
  pub told : IsTold c.holds link
  pub works : link.read_fails ≡ false
  pub pieces : link.pieces ≡ []
  pub is_ended : link.is_ended ≡ true
  pub tells : IsTold c.after link
  pub untold : c.holds ≡ None → c.after ≡ None
  pub past : c.past_after ≡ record c.past { answered_end = marked c.past.answered_end }
  pub counts : c.counts_after ≡ c.counts

-- a piece, or the end, was read
abbrev pub ReadDoes : Setup → Calls → Conn → Note → Conn → Type 0
ReadDoes setup c s said t =
    ((piece : List ℕ) × TakesPiece c piece × TookNext setup s piece t × (said ≡ note.Took s.number (length piece)))
    ⊎ ((inside : Bool) × TakesEnd c × EndsThere s inside × (finished s inside ≡ (said, t)))

-- a link that tells it fails the read, once
abbrev pub FailsRead : Option Link → Option Link → Type 0
FailsRead None after = after ≡ None
FailsRead (Some link) after = (link.read_fails ≡ true) × (after ≡ Some (record link { read_fails = false }))

pub record ReadFails (c : Calls) : Type 0 where
  pub fails : FailsRead c.holds c.after
  pub past : c.past_after ≡ c.past
  pub counts : c.counts_after ≡ record c.counts { faults = risen c.counts.faults }

-- What a read gives, and for which state the connection stands then. A piece was taken where memory was refused.
abbrev pub ReadGives : Setup → Calls → (Conn → Type 0) → Conn → Result WentWith NoMemory → Type 0
ReadGives setup c stands s (Ok Waits) = ReadWaits c s × stands s
ReadGives setup c stands s (Ok Failed) = (can_read s ≡ true) × ReadFails c × stands (failed s)
ReadGives setup c stands s (Ok (Did said)) = (can_read s ≡ true) × ((t : Conn) × ReadDoes setup c s said t × stands t)
ReadGives setup c stands s (Ok Noteless) = ⊥
ReadGives setup c stands s (Err refused) = (can_read s ≡ true) × ((piece : List ℕ) × TakesPiece c piece) × stands (starved s)
