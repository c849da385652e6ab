-- What the code's word for a want stands for.
use Rattle.std.specs.Prelude.{◌≡◌, ℕ, List, Bool, true, false, Option, Some, None, Result, Ok, Err}
use Rattle.mq_iptun.specs.Acts.{MayAsk}
use Rattle.mq_talk.specs.declared.book.Call.TheVariants as call
use Rattle.mq_talk.specs.declared.goal.Goal.TheVariants as goal
use Rattle.mq_talk.specs.declared.place.Parcel.{Parcel}
use Rattle.mq_talk.specs.declared.place.Pushed.{Pushed}
use Rattle.mq_talk.specs.declared.place.Pushed.TheVariants as pushed
use Rattle.mq_talk.specs.Mails.{inbox_in}
use Rattle.mq_wire.specs.declared.NoMemory.{NoMemory}
use Rattle.mq_machine.specs.State.{Conn as State}
use Rattle.mq_machine.specs.Want as machine
use Rattle.mq_machine.specs.Want.{want_of}
use Rattle.mq_conn.specs.declared.conn.Conn.{Conn}
use Rattle.mq_conn.specs.Conns.{IsConn}
use Rattle.mq_conn.specs.declared.want.Want.{Want}
use Rattle.mq_conn.specs.declared.want.Want.TheVariants as want

-- the inbox to which a push is to go, of a connection with this pump
abbrev pub PushesTo : ℕ → Want → machine.Want → Type 0
PushesTo pump (want.Push to) (machine.Push parcel) = to ≡ inbox_in pump parcel.to
PushesTo pump w m = Unit {0}

-- what the book is asked keeps to its limits
abbrev pub MayWant : Want → Type 0
MayWant (want.Ask call) = MayAsk call
MayWant w = Unit {0}

-- the book is asked for addresses or ways, of which a list is handed over
abbrev pub HandsOver : machine.Want → Type 0
HandsOver (machine.Ask (call.Assign tunnel asked)) = Unit {0}
HandsOver (machine.Ask (call.Advertise tunnel ranges)) = Unit {0}
HandsOver m = ⊥

-- whether a push was taken
abbrev pub is_taken : Pushed → Bool
is_taken pushed.Taken = true
is_taken (pushed.Full back) = false

-- the want of the machine that this is
abbrev pub IsWant : Want → machine.Want → Type 0
IsWant want.Nothing m = m ≡ machine.Nothing
IsWant want.Say m = m ≡ machine.Say
IsWant (want.Bind addr port) m = (stream : ℕ) × (m ≡ machine.Bind stream (goal.Udp addr port))
IsWant (want.Ask call) m = m ≡ machine.Ask call
IsWant (want.SendUdp tunnel n) m = (payload : List ℕ) × (m ≡ machine.Send tunnel n payload)
IsWant (want.Ended why) m = m ≡ machine.Over why
IsWant (want.Judge tunnel n flow) m = m ≡ machine.Judge tunnel n flow
IsWant (want.Push to) m = (parcel : Parcel) × (m ≡ machine.Push parcel)

-- the tunnel of which it wants to send a payload, and none where it wants no send
abbrev pub SendsTo : Option ℕ → machine.Want → Type 0
SendsTo None m = (tunnel n : ℕ) (payload : List ℕ) → m ≡ machine.Send tunnel n payload → ⊥
SendsTo (Some tunnel) m = (n : ℕ) × (payload : List ℕ) × (m ≡ machine.Send tunnel n payload)

-- ---- what `next` promises

-- it wants this of the outside, where the book is asked for nothing beyond its limits
pub record WantIs (pump : ℕ) (w : Want) (m : machine.Want) : Type 0 where
  pub is : IsWant w m
  pub pushes : PushesTo pump w m
  pub may : MayWant w

-- or was refused memory for a list that is handed over
abbrev pub WantsOf : ℕ → machine.Want → Result Want NoMemory → Type 0
WantsOf pump m (Ok w) = WantIs pump w m
WantsOf pump m (Err fault) = HandsOver m

abbrev pub Wants : Conn → Result Want NoMemory → Type 0
Wants c result = (s : State) → IsConn c s → WantsOf c.pump (want_of s) result
