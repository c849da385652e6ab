-- What is one, whatever the state.
use Rattle.std.specs.Prelude.{◌≡◌, ⊤, ℕ, true, List, [], ◌∷◌, Option, Some, Result}
use Rattle.mq_wire.specs.declared.NoMemory.{NoMemory}
use Rattle.mq_talk.specs.declared.book.Call.{Call}
use Rattle.mq_talk.specs.declared.book.Reply.{Reply}
use Rattle.mq_talk.specs.declared.note.Note.{Note}
use Rattle.mq_talk.specs.declared.note.End.TheVariants as end
use Rattle.mq_addr.specs.declared.range.Flow.{Flow}
use Rattle.mq_talk.specs.declared.place.Origin.{Origin}
use Rattle.mq_talk.specs.declared.place.Parcel.{Parcel}
use Rattle.mq_talk.specs.declared.place.Verdict.{Verdict}
use Rattle.mq_machine.specs.declared.act.Due.{Due}
use Rattle.mq_machine.specs.declared.act.Due.TheVariants as due
use Rattle.mq_machine.specs.declared.setup.Setup.{Setup}
use Rattle.mq_talk.specs.Answers.{IsAnswer}
use Rattle.mq_talk.specs.Judging.{IsJudged}
use Rattle.mq_machine.specs.Settle.{settle}
use Rattle.mq_machine.specs.State.{Conn, Front, Head, OverHttp1, OverHttp2, Held, held_of, Worker, Orders, Shared, State}
use Rattle.mq_machine.specs.Want.{Answer}
use Rattle.mq_machine.specs.Done.{done}
use Rattle.mq_machine.specs.Steps.{can_read}
use Rattle.mq_machine.specs.Reading.{TookNext}
use Rattle.mq_machine.specs.Silent.{Reached, ConnStarves, SilentTurn}
use Rattle.mq_machine.specs.Acting.{Sight, TellsAll, HasTold, StepGives, PlainGives}
use Rattle.mq_machine.specs.Turn.{WorkerTurn, Actor, Turn, Quiet}
use Rattle.mq_talk.specs.declared.book.Config.{Config}
use Rattle.mq_talk.specs.declared.book.Entry.{Entry}

-- a read brings one thing
abbrev pub ReadsOnce : Type 0
ReadsOnce = (setup : Setup) (old a b : Conn) (bytes : List ℕ) → TookNext setup old bytes a → TookNext setup old bytes b → a ≡ b

-- and it isn't so that it brings nothing
abbrev pub ReadsAlways : Type 0
ReadsAlways = (setup : Setup) (old : Conn) (bytes : List ℕ) → can_read old ≡ true → ((new : Conn) → TookNext setup old bytes new → ⊥) → ⊥

-- the book says one thing
pub record SaysOne (config : Config) (book : List Entry) : Type 0 where
  pub answers : (call : Call) (a b : Reply) → IsAnswer config book call a → IsAnswer config book call b → a ≡ b
  pub judges : (from : Origin) (flow : Flow) (a b : Verdict) → IsJudged config book from flow a → IsJudged config book from flow b → a ≡ b

-- and it isn't so that it says nothing
pub record SaysSome (config : Config) (book : List Entry) : Type 0 where
  pub answers : (call : Call) → ((reply : Reply) → IsAnswer config book call reply → ⊥) → ⊥
  pub judges : (from : Origin) (flow : Flow) → ((verdict : Verdict) → IsJudged config book from flow verdict → ⊥) → ⊥

-- what an answer does to a connection is one thing
abbrev pub IsDoneOnce : Type 0
IsDoneOnce = (c a b : Conn) (answer : Answer) (n m : Note) → done c answer ≡ Some (n, a) → done c answer ≡ Some (m, b) → (n ≡ m) × (a ≡ b)

-- a worker's turn, by one answer of the outside, is one note, and leads to one state
abbrev pub HasOneWorkerTurn : Type 0
HasOneWorkerTurn = (old : Worker) (box : List Parcel) (sh : Shared) (answer : Answer) (n m : Note) (a b : Worker) (s t : Shared) → SaysOne sh.config sh.book
    → WorkerTurn old box sh answer n a s → WorkerTurn old box sh answer m b t → (n ≡ m) × (a ≡ b) × (s ≡ t)

-- an actor's turn is one note, and leads to one state
abbrev pub HasOneTurn : Type 0
HasOneTurn = (old : State) (actor : Actor) (n m : Note) (a b : State) → SaysOne old.shared.config old.shared.book → Turn old actor n a → Turn old actor m b → (n ≡ m) × (a ≡ b)

-- an actor that has a turn isn't quiet
abbrev pub IsTurnOrQuiet : Type 0
IsTurnOrQuiet = (old new : State) (actor : Actor) (note : Note) → Turn old actor note new → Quiet old actor → ⊥

-- an actor that has none is
abbrev pub IsQuietOrTurn : Type 0
IsQuietOrTurn = (old : State) (actor : Actor) → ReadsAlways → SaysSome old.shared.config old.shared.book → ((note : Note) (new : State) → Turn old actor note new → ⊥) → Quiet old actor

-- an act is in front, or nothing
abbrev pub BeginsWithAct : List Due → Type 0
BeginsWithAct [] = ⊤
BeginsWithAct (due.Do act ∷ rest) = ⊤
BeginsWithAct (due.Spend stream size ∷ rest) = ⊥
BeginsWithAct (due.Fault code ∷ rest) = ⊥

-- it has no frames
abbrev pub IsPlain : Front → Type 0
IsPlain (Head bytes) = ⊤
IsPlain OverHttp1 = ⊤
IsPlain (OverHttp2 h) = ⊥

-- where there are no frames and no mark is in front, the end of an act changes nothing
abbrev pub SettlesNothing : Type 0
SettlesNothing = (c : Conn) → IsPlain c.front → BeginsWithAct c.due → settle c ≡ c

-- a step of an actor that was refused memory when it had come so far leads to one state
abbrev pub HasOneSilentTurn : Type 0
HasOneSilentTurn = (old : State) (actor : Actor) (reached : Reached) (a b : State) → SaysOne old.shared.config old.shared.book → SilentTurn old actor reached a → SilentTurn old actor reached b → a ≡ b

-- and its actor isn't quiet
abbrev pub IsSilentOrQuiet : Type 0
IsSilentOrQuiet = (old new : State) (actor : Actor) (reached : Reached) → SilentTurn old actor reached new → Quiet old actor → ⊥

-- Where links, ports, office and mail tell all, a step that gave a note is the worker's turn, and a port that it opened is
-- prepared; where it gave none the worker had no turn; and else it was refused memory at that turn.
abbrev pub IsToldStep : Type 0
IsToldStep = (orders : Orders) (old new : Sight) (boxes : List (List Parcel)) (s t : Worker) (result : Result (Option Note) NoMemory)
    → TellsAll old.outside s → HasTold new.outside t → old.seen.is_whole ≡ true → old.boxes.told ≡ Some boxes
    → StepGives orders old new s result t → PlainGives orders old new boxes s result t

-- a connection is refused memory once at most: then it is ending for want of it
abbrev pub StarvesOnce : Type 0
StarvesOnce = (old new : Worker) (sh after : Shared) (number : ℕ) (reached : Reached) (answer : Answer) (h : Held) → ConnStarves old sh number reached answer new after
    → held_of old number ≡ Some h → h.conn.ending ≡ Some end.NoMemory → ⊥
