-- What an actor's way to the book answers. Other actors write too, so the history goes on between its calls.
use Rattle.std.specs.Prelude.{◌≡◌, ◌≢◌, ⊤, ℕ, Bool, true, [], ◌++◌, length, slice_get, Some, Result, Ok, Err}
use Rattle.std.specs.List.{All}
use Rattle.mq_wire.specs.declared.NoMemory.{NoMemory}
use Rattle.mq_addr.specs.declared.range.Flow.{Flow}
use Rattle.mq_talk.specs.declared.book.Call.{Call}
use Rattle.mq_talk.specs.declared.book.Call.TheVariants.{Close}
use Rattle.mq_talk.specs.declared.book.Config.{Config}
use Rattle.mq_talk.specs.declared.book.Entry.{Entry}
use Rattle.mq_talk.specs.declared.book.Reply.{Reply}
use Rattle.mq_talk.specs.declared.place.Judged.{Judged}
use Rattle.mq_talk.specs.declared.place.Origin.{Origin}
use Rattle.mq_talk.specs.declared.place.Origin.TheVariants as origin
use Rattle.mq_talk.specs.Book.{History}
use Rattle.mq_talk.specs.Config.{IsConfig}
use Rattle.mq_talk.specs.Answers.{IsAnswer, IsLegal, IsMine, recorded}
use Rattle.mq_talk.specs.Judging.{IsJudged}

-- whose office it is, what it has seen of the one history, and whether that is the whole
pub record Seen : Type 0 where
  pub actor : ℕ
  pub config : Config
  pub entries : History
  pub is_whole : Bool

-- an entry that another actor wrote: it closes no tunnel that this actor opened
pub record IsOfOther (seen : Seen) (e : Entry) : Type 0 where
  pub by : e.actor ≢ seen.actor
  pub keeps : (tunnel : ℕ) (opener : Entry) → e.call ≡ Close tunnel → slice_get seen.entries tunnel ≡ Some opener → opener.actor ≢ seen.actor

-- A history in which an actor acts that has seen so much: others wrote what goes on from there, and there is nothing more where
-- it sees the whole.
pub record Sees (seen : Seen) (book : History) : Type 0 where
  pub more : History
  pub goes_on : book ≡ seen.entries ++ more
  pub others : All (IsOfOther seen) more
  pub whole : seen.is_whole ≡ true → more ≡ []

-- it stays the same office
pub record IsSame (old new : Seen) : Type 0 where
  pub config : new.config ≡ old.config
  pub whole : new.is_whole ≡ old.is_whole

-- what was seen is legal, by a configuration that an operator may give
pub record IsSound (seen : Seen) : Type 0 where
  pub config : IsConfig seen.config
  pub legal : IsLegal seen.config seen.entries

-- what a call is answered, and what the office has seen then: all entries before the call's own, and that
pub record CallOk (actor : ℕ) (old : Seen) (call : Call) (reply : Reply) (new : Seen) : Type 0 where
  pub book : History
  pub sees : Sees old book
  pub reply_is : IsAnswer old.config book call reply
  pub seen : new.entries ≡ recorded book actor call reply
  pub same : IsSame old new

-- a call that was refused memory wrote nothing, and may have seen more
abbrev pub CallGives : ℕ → Seen → Call → Result Reply NoMemory → Seen → Type 0
CallGives actor old call (Ok reply) new = CallOk actor old call reply new
CallGives actor old call (Err refused) new = Sees old new.entries × IsSame old new

-- A judgement stands on all that the office has seen then.
pub record JudgeGives (old : Seen) (from : Origin) (flow : Flow) (judged : Judged) (new : Seen) : Type 0 where
  pub sees : Sees old new.entries
  pub at : judged.at ≡ length new.entries
  pub verdict : IsJudged old.config new.entries from flow judged.verdict
  pub same : IsSame old new

-- an actor asks of packets of its own live tunnels, and the pump of those from the network
abbrev pub MayJudge : Seen → ℕ → Origin → Type 0
MayJudge seen actor (origin.Tunnel tunnel) = IsMine seen.entries actor tunnel
MayJudge seen actor origin.Net = ⊤
