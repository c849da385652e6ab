-- What the book of a desk is asked, and what it answers.
use Rattle.std.specs.Prelude.{◌≡◌, ◌≢◌, ⊤, ℕ, length, Result, Ok, Err}
use Rattle.mq_wire.specs.declared.NoMemory.{NoMemory}
use Rattle.mq_talk.specs.declared.book.Call.{Call}
use Rattle.mq_talk.specs.declared.book.Call.TheVariants.{Close}
use Rattle.mq_talk.specs.declared.book.Config.{Config}
use Rattle.mq_talk.specs.declared.book.Entry.{Entry}
use Rattle.mq_talk.specs.declared.book.Reply.{Reply}
use Rattle.mq_talk.specs.declared.place.Origin.{Origin}
use Rattle.mq_talk.specs.declared.place.Origin.TheVariants as origin
use Rattle.mq_talk.specs.Book.{History}
use Rattle.mq_talk.specs.Answers.{IsAnswer, IsMine, MayCall, recorded}
use Rattle.mq_talk.specs.Judging.{IsJudged}
use Rattle.mq_desk.specs.declared.ask.Answer.{Answer}
use Rattle.mq_desk.specs.declared.ask.Answer.TheVariants as answer
use Rattle.mq_desk.specs.declared.ask.Ask.{Ask}
use Rattle.mq_desk.specs.declared.ask.Ask.TheVariants as ask

-- who asks
abbrev pub asker : Ask → ℕ
asker (ask.Call actor call) = actor
asker (ask.Judge actor from flow) = actor

-- whose entry it is
abbrev pub actor_of : Entry → ℕ
actor_of e = e.actor

-- an actor asks of packets of its own live tunnels, or of those from the network
abbrev pub MayAskOf : History → ℕ → Origin → Type 0
MayAskOf h actor (origin.Tunnel tunnel) = IsMine h actor tunnel
MayAskOf h actor origin.Net = ⊤

abbrev pub MayAsk : Config → History → Ask → Type 0
MayAsk config h (ask.Call actor call) = MayCall config h actor call
MayAsk config h (ask.Judge actor from flow) = MayAskOf h actor from

-- a call was answered, or was refused memory and wrote nothing, which a close never is
abbrev pub IsCalled : Config → History → ℕ → Call → Result Reply NoMemory → History → Type 0
IsCalled config h actor call (Ok reply) new = IsAnswer config h call reply × (new ≡ recorded h actor call reply)
IsCalled config h actor call (Err refused) new = (new ≡ h) × ((tunnel : ℕ) → call ≢ Close tunnel)

abbrev pub Serves : Config → History → Ask → Answer → History → Type 0
Serves config h (ask.Call actor call) (answer.Called result) new = IsCalled config h actor call result new
Serves config h (ask.Call actor call) (answer.Judged judged) new = ⊥
Serves config h (ask.Judge actor from flow) (answer.Judged judged) new =
    (new ≡ h) × (judged.at ≡ length h) × IsJudged config h from flow judged.verdict
Serves config h (ask.Judge actor from flow) (answer.Called result) new = ⊥
