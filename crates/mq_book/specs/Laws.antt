-- What holds of every history, and of every legal one.
use Rattle.std.specs.Prelude.{◌≡◌, ℕ, ◌++◌, take}
use Rattle.mq_addr.specs.declared.addr.Addr.{Addr}
use Rattle.mq_addr.specs.declared.range.Flow.{Flow}
use Rattle.mq_talk.specs.declared.book.Config.{Config}
use Rattle.mq_talk.specs.declared.book.Call.{Call}
use Rattle.mq_talk.specs.declared.book.Call.TheVariants.{Open, Assign, Advertise, Close}
use Rattle.mq_talk.specs.declared.book.Reply.{Reply}
use Rattle.mq_talk.specs.declared.book.Reply.TheVariants.{Opened, HistoryFull, Assigned, Accepted, Closed}
use Rattle.mq_talk.specs.declared.place.Origin.{Origin}
use Rattle.mq_talk.specs.declared.place.Place.{Place}
use Rattle.mq_talk.specs.declared.place.Verdict.{Verdict}
use Rattle.mq_talk.specs.declared.place.Verdict.TheVariants.{Pass}
use Rattle.mq_talk.specs.Book.{History, IsOwner, Owns}
use Rattle.mq_talk.specs.Answers.{IsAnswer, IsFull, IsLegal}
use Rattle.mq_talk.specs.Config.{IsConfig}
use Rattle.mq_talk.specs.Judging.{IsJudged}
use Rattle.mq_talk.specs.Mails.{HasInbox}

-- the reply is one that such a call may get
abbrev pub Fits : Call → Reply → Type 0
Fits (Open conn stream actor goal) (Opened tunnel routes) = Unit {0}
Fits (Assign tunnel asked) (Assigned list at) = Unit {0}
Fits (Advertise tunnel ranges) (Accepted taken_up at) = Unit {0}
Fits (Close tunnel) Closed = Unit {0}
Fits (Close tunnel) (HistoryFull entries live) = ⊥
Fits call (HistoryFull entries live) = Unit {0}
Fits call reply = ⊥

abbrev pub EachReplyFits : Type 0
EachReplyFits = (config : Config) (h : History) (call : Call) (reply : Reply) → IsAnswer config h call reply → Fits call reply

-- a call has one answer, whatever the history
abbrev pub HasOneAnswer : Type 0
HasOneAnswer = (config : Config) (h : History) (call : Call) (a b : Reply) → IsAnswer config h call a → IsAnswer config h call b → a ≡ b

-- what a legal history begins with is legal
abbrev pub BeginsLegal : Type 0
BeginsLegal = (config : Config) (h : History) (n : ℕ) → IsLegal config h → IsLegal config (take n h)

-- a history that has no place for so many entries has none later, whatever the entries
abbrev pub StaysFull : Type 0
StaysFull = (config : Config) (h more : History) (count entries live : ℕ) → IsFull config h count entries live
    → (entries_later live_later : ℕ) × IsFull config (h ++ more) count entries_later live_later

-- no address lies in blocks or accepted ranges of two live tunnels
abbrev pub HasOneOwner : Type 0
HasOneOwner = (config : Config) (h : History) (t u : ℕ) (a : Addr) → IsConfig config → IsLegal config h → IsOwner h t a → IsOwner h u a → t ≡ u

-- no address is owned by two live tunnels, for one protocol or for two
abbrev pub IsOwnedOnce : Type 0
IsOwnedOnce = (config : Config) (h : History) (t u : ℕ) (a : Addr) (p q : ℕ) → IsConfig config → IsLegal config h → Owns h t a p → Owns h u a q → t ≡ u

-- a legal history, an origin and a packet's ends determine the verdict
abbrev pub HasOneVerdict : Type 0
HasOneVerdict = (config : Config) (h : History) (origin : Origin) (flow : Flow) (a b : Verdict) → IsConfig config → IsLegal config h
    → IsJudged config h origin flow a → IsJudged config h origin flow b → a ≡ b

-- a packet that may pass goes to an inbox that there is
abbrev pub JudgedHasInbox : Type 0
JudgedHasInbox = (config : Config) (h : History) (origin : Origin) (flow : Flow) (to : Place) → IsLegal config h
    → IsJudged config h origin flow (Pass to) → HasInbox config.workers to
