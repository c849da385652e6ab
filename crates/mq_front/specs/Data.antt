-- What a data stream stands for, and what more of its bytes ask for.
use Rattle.std.specs.Prelude.{◌≡◌, ℕ, Bool, true, List, ◌++◌, if◌then◌else◌}
use Rattle.mq_capsule.specs.declared.item.Item.{Item}
use Rattle.mq_capsule.specs.Items.{ItemsOf}
use Rattle.mq_capsule.specs.Readers.{Stands, TellsBegun}
use Rattle.mq_talk.specs.declared.note.Why.{Why}
use Rattle.mq_talk.specs.declared.note.Why.TheVariants as why
use Rattle.mq_machine.specs.declared.act.Due.{Due}
use Rattle.mq_machine.specs.declared.act.StreamAct.{StreamAct}
use Rattle.mq_machine.specs.Reading.{BytesAsk, has_values, on_stream, payload_count}
use Rattle.mq_machine.specs.State.{Stream, kind_of}
use Rattle.mq_front.specs.declared.data.DataStream.{DataStream}
use Rattle.mq_front.specs.Limits.{AllMayAct}

-- the data stream of a tunnel of this kind, whose bytes the reader was fed, and the number of its next payload
pub record IsStream (d : DataStream) (s : Stream) : Type 0 where
  pub id_is : d.id ≡ s.id
  pub kind_is : d.kind ≡ kind_of s.goal
  pub items : List Item
  pub stands : Stands d.reader (has_values s.goal) s.bytes
  pub items_are : ItemsOf (has_values s.goal) s.bytes items
  pub next : d.n ≡ payload_count items

-- why its end closes the tunnel
abbrev pub EndsAs : DataStream → Why → Type 0
EndsAs d end = (inside : Bool) × (end ≡ (if inside then why.Truncated else why.End)) × TellsBegun d.reader (inside ≡ true)

-- more bytes, with which the data stream ends or doesn't: what they ask for was put
pub record Took (mtu : ℕ) (s : Stream) (bytes : List ℕ) (ends : Bool) (before after : List Due) (new : DataStream) : Type 0 where
  pub asked : List StreamAct
  pub asks : BytesAsk mtu s bytes ends asked
  pub may : AllMayAct asked
  pub after_is : after ≡ before ++ on_stream s.id asked
  pub stands : IsStream new (record s { bytes = s.bytes ++ bytes })

-- whatever was read of it before
abbrev pub Takes : ℕ → DataStream → List ℕ → Bool → List Due → List Due → DataStream → Type 0
Takes mtu old bytes ends before after new = (s : Stream) → IsStream old s → Took mtu s bytes ends before after new
