-- What is asked of a tunnel for IP packets, among all that is asked of tunnels.
use Rattle.std.specs.Prelude.{◌≡◌, ℕ, ◌≤◌, List, [], ◌∷◌, length}
use Rattle.std.specs.List.{All}
use Rattle.mq_addr.specs.declared.entry.Asked.{Asked}
use Rattle.mq_addr.specs.declared.range.Range.{Range}
use Rattle.mq_addr.specs.Ranges.{IsOrdered}
use Rattle.mq_talk.specs.Answers.{IsAsked}
use Rattle.mq_talk.specs.declared.book.Call.{Call}
use Rattle.mq_talk.specs.declared.book.Call.TheVariants as call
use Rattle.mq_talk.specs.declared.note.Why.TheVariants as why
use Rattle.mq_machine.specs.declared.act.StreamAct.{StreamAct}
use Rattle.mq_machine.specs.declared.act.StreamAct.TheVariants as stream
use Rattle.mq_iptun.specs.declared.act.IpAct.{IpAct}
use Rattle.mq_iptun.specs.declared.act.IpAct.TheVariants.{Nothing, Ask, Packet, Dropped, Malformed}
use Rattle.mq_iptun.specs.declared.asked.ItemAct.{ItemAct}
use Rattle.mq_iptun.specs.declared.asked.ItemAct.TheVariants as item

-- ---- what an item asks for

-- the call asks the book for this tunnel what the acts ask for
abbrev pub Asks : ℕ → Call → List StreamAct → Type 0
Asks tunnel (call.Open conn on actor goal) acts = ⊥
Asks tunnel (call.Assign of asked) acts = (of ≡ tunnel) × (acts ≡ stream.Assign asked ∷ [])
Asks tunnel (call.Advertise of ranges) acts = (of ≡ tunnel) × (acts ≡ stream.Advertise ranges ∷ [])
Asks tunnel (call.Close of) acts = ⊥

-- what is asked of this tunnel is these acts: none, or one
abbrev pub Does : ℕ → IpAct → List StreamAct → Type 0
Does tunnel Nothing acts = acts ≡ []
Does tunnel (Ask call) acts = Asks tunnel call acts
Does tunnel (Packet n packet flow) acts = acts ≡ stream.Packet n packet flow ∷ []
Does tunnel (Dropped n cause) acts = acts ≡ stream.Drop n cause ∷ []
Does tunnel Malformed acts = acts ≡ stream.Close why.Malformed ∷ []

-- ---- what the book may be asked

-- the entries of a request that the book takes: 1 to 16, each with a Request ID that isn't 0 and a block
pub record MayAssign (asked : List Asked) : Type 0 where
  pub some : 1 ≤ length asked
  pub few : length asked ≤ 16
  pub each : All IsAsked asked

-- the ranges of an advertisement that the book takes: at most 32, in order
pub record MayAdvertise (ranges : List Range) : Type 0 where
  pub few : length ranges ≤ 32
  pub ordered : IsOrdered ranges

-- what a data stream may ask for: a push comes of a verdict alone
abbrev pub MayAct : StreamAct → Type 0
MayAct (stream.Payload n payload) = Unit {0}
MayAct (stream.Packet n packet flow) = Unit {0}
MayAct (stream.Push n to packet) = ⊥
MayAct (stream.Drop n cause) = Unit {0}
MayAct (stream.Assign asked) = MayAssign asked
MayAct (stream.Advertise ranges) = MayAdvertise ranges
MayAct (stream.Close why) = Unit {0}

abbrev pub MayAsk : Call → Type 0
MayAsk (call.Open conn on actor goal) = Unit {0}
MayAsk (call.Assign of asked) = MayAssign asked
MayAsk (call.Advertise of ranges) = MayAdvertise ranges
MayAsk (call.Close of) = Unit {0}

abbrev pub MayDo : IpAct → Type 0
MayDo Nothing = Unit {0}
MayDo (Ask call) = MayAsk call
MayDo (Packet n packet flow) = Unit {0}
MayDo (Dropped n cause) = Unit {0}
MayDo Malformed = Unit {0}

-- ---- the same of what an item asks for before its tunnel is known; only the crate's own functions cite these words

abbrev pub stream_acts : ItemAct → List StreamAct
stream_acts item.Nothing = []
stream_acts (item.Packet n packet flow) = stream.Packet n packet flow ∷ []
stream_acts (item.Drop n cause) = stream.Drop n cause ∷ []
stream_acts (item.Assign asked) = stream.Assign asked ∷ []
stream_acts (item.Advertise ranges) = stream.Advertise ranges ∷ []
stream_acts item.Malformed = stream.Close why.Malformed ∷ []

abbrev pub MayItem : ItemAct → Type 0
MayItem item.Nothing = Unit {0}
MayItem (item.Packet n packet flow) = Unit {0}
MayItem (item.Drop n cause) = Unit {0}
MayItem (item.Assign asked) = MayAssign asked
MayItem (item.Advertise ranges) = MayAdvertise ranges
MayItem item.Malformed = Unit {0}
