-- What a connection does as the book judges its packet, and as an inbox answers a push.
use Rattle.std.specs.Prelude.{◌≡◌, ℕ, Some}
use Rattle.mq_addr.specs.declared.range.Flow.{Flow}
use Rattle.mq_talk.specs.declared.note.Note.{Note}
use Rattle.mq_talk.specs.declared.place.Judged.{Judged}
use Rattle.mq_talk.specs.declared.place.Origin.TheVariants as origin
use Rattle.mq_talk.specs.declared.place.Parcel.{Parcel}
use Rattle.mq_talk.specs.declared.place.Pushed.{Pushed}
use Rattle.mq_talk.specs.Mails.{PushGives, inbox_in, Inboxes}
use Rattle.mq_talk.specs.Offices.{Seen, JudgeGives}
use Rattle.mq_machine.specs.Done.{done}
use Rattle.mq_machine.specs.State.{Conn}
use Rattle.mq_machine.specs.Want as want
use Rattle.mq_conn.specs.Wants.{is_taken}

-- the book judged a packet of this tunnel
pub record Judges (old new : Seen) (stands : Conn → Type 0) (s : Conn) (tunnel : ℕ) (flow : Flow) (said : Note) : Type 0 where
  pub judged : Judged
  pub gives : JudgeGives old (origin.Tunnel tunnel) flow judged new
  pub t : Conn
  pub does : done s (want.Judged judged.verdict judged.at) ≡ Some (said, t)
  pub stands_for : stands t

-- an inbox answered the push of this parcel, which goes to that of its place
pub record Pushes (count : ℕ) (old new : Inboxes) (workers : ℕ) (stands : Conn → Type 0) (s : Conn) (parcel : Parcel) (said : Note) : Type 0 where
  pub pushed : Pushed
  pub gives : PushGives count old (inbox_in workers parcel.to) parcel pushed new
  pub t : Conn
  pub does : done s (want.Pushed (is_taken pushed)) ≡ Some (said, t)
  pub stands_for : stands t
