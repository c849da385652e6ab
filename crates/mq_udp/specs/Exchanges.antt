-- What the calls of an exchange do. Only the crate's own functions cite what stands here.
use Rattle.std.specs.Prelude.{◌≡◌, ℕ, ◌-◌, ◌≤◌, ◌⊎◌, Bool, true, false, List, [], ◌∷◌, ◌++◌, length, take, Option, Some, None, Result, Ok, Err, Contains}
use Rattle.mq_client.specs.Client.{StandsFor}
use Rattle.mq_client.specs.declared.event.ClientEvent.{ClientEvent}
use Rattle.mq_client.specs.declared.event.ClientEvent.TheVariants as event
use Rattle.mq_client.specs.State.{State, told}
use Rattle.mq_outside.specs.Counts.{LinkCounts}
use Rattle.mq_outside.specs.Links.{LinkPast}
use Rattle.mq_outside.specs.Outside.{Rose}
use Rattle.mq_output.specs.declared.stop.Stop.{Stop}
use Rattle.mq_output.specs.declared.stop.Stop.TheVariants as stop
use Rattle.mq_play.specs.Script.{IsFrontOf}
use Rattle.mq_udp.specs.declared.exchange.Exchange.{Exchange}
use Rattle.mq_udp.specs.declared.exchange.Heard.{Heard}
use Rattle.mq_udp.specs.declared.outcome.Outcome.{Outcome}
use Rattle.mq_udp.specs.declared.outcome.Outcome.TheVariants as outcome
use Rattle.mq_udp.specs.Moves.{Move, events_in, payloads_of, sent_in}
use Rattle.mq_udp.specs.Talks.{Asking, Ends, Talked, lines_text, shown_of}

-- ---- prints

abbrev pub StoppedBy : Stop → Outcome → Type 0
StoppedBy stop.WriteFault why = why ≡ outcome.WriteFault
StoppedBy stop.BadLine why = why ≡ outcome.NoMemory
StoppedBy stop.NoMemory why = why ≡ outcome.NoMemory

-- a payload is printed where some are left, or a front of that
abbrev pub PrintsOne : List ℕ → ℕ → List ℕ → Result (Unit {0}) Stop → ℕ → Type 0
PrintsOne payload left shown (Ok done) now = (shown ≡ lines_text (take left (payload ∷ []))) × (now ≡ left - 1)
PrintsOne payload left shown (Err stop.WriteFault) now = IsFrontOf shown (lines_text (take left (payload ∷ [])))
PrintsOne payload left shown (Err stop.NoMemory) now = IsFrontOf shown (lines_text (take left (payload ∷ [])))
PrintsOne payload left shown (Err stop.BadLine) now = ⊥

-- an event says why an exchange ends so
abbrev pub SaysEnd : List ClientEvent → Option Outcome → Type 0
SaysEnd events None = Unit {0}
SaysEnd events (Some outcome.Refused) = (status : ℕ) × Contains events (event.Refused status)
SaysEnd events (Some outcome.BadPeer) = (code : ℕ) × Contains events (event.BadPeer code)
SaysEnd events (Some outcome.Early) = Contains events event.Closed
SaysEnd events (Some why) = ⊥

-- an event leaves why an exchange ends, or says it
abbrev pub SaysMore : ClientEvent → Option Outcome → Option Outcome → Type 0
SaysMore e before after = (after ≡ before) ⊎ SaysEnd (e ∷ []) after

-- the payload of an event is printed where some are left, or a front of that
abbrev pub HearsOne : ClientEvent → ℕ → List ℕ → Option Outcome → Result (Unit {0}) Stop → ℕ → Option Outcome → Type 0
HearsOne e left shown before (Ok done) now after =
    (shown ≡ lines_text (take left (payloads_of (e ∷ [])))) × (now ≡ left - length (payloads_of (e ∷ []))) × SaysMore e before after
HearsOne e left shown before (Err stop.WriteFault) now after = IsFrontOf shown (lines_text (take left (payloads_of (e ∷ []))))
HearsOne e left shown before (Err stop.NoMemory) now after = IsFrontOf shown (lines_text (take left (payloads_of (e ∷ []))))
HearsOne e left shown before (Err stop.BadLine) now after = ⊥

-- the payloads of events are printed while some are left
abbrev pub HearsTo : List ClientEvent → ℕ → List ℕ → Option Outcome → ℕ → Type 0
HearsTo events left shown end now =
    (shown ≡ lines_text (take left (payloads_of events))) × (now ≡ left - length (payloads_of events)) × SaysEnd events end

-- or a front of that
abbrev pub HearsAll : List ClientEvent → ℕ → List ℕ → Result Heard Stop → ℕ → Type 0
HearsAll events left shown (Ok heard) now = HearsTo events left shown heard.end now
HearsAll events left shown (Err stop.WriteFault) now = IsFrontOf shown (lines_text (take left (payloads_of events)))
HearsAll events left shown (Err stop.NoMemory) now = IsFrontOf shown (lines_text (take left (payloads_of events)))
HearsAll events left shown (Err stop.BadLine) now = ⊥

-- all of that was written, or a front of it
abbrev pub Hears : List ClientEvent → ℕ → List ℕ → Result Heard Outcome → ℕ → Type 0
Hears events left shown (Ok heard) now = HearsTo events left shown heard.end now
Hears events left shown (Err outcome.WriteFault) now = IsFrontOf shown (lines_text (take left (payloads_of events)))
Hears events left shown (Err outcome.NoMemory) now = IsFrontOf shown (lines_text (take left (payloads_of events)))
Hears events left shown (Err why) now = ⊥

-- where all was done, an early end is the end
abbrev pub ended_by : Outcome → Bool → Outcome
ended_by outcome.Early true = outcome.Done
ended_by outcome.Early false = outcome.Early
ended_by why done = why

-- ---- where an exchange is

module _ {L : Type 0} where
  -- The client did these moves on the link, which didn't fail, and wasn't fed some bytes that the link gave behind them.
  pub record IsFed (past : L → LinkPast) (counts : L → LinkCounts) (ask : Asking) (x : Exchange L) (moves : List Move) (s : State) (unfed : List ℕ) : Type 0 where
    pub stands : StandsFor x.client s
    pub talked : Talked ask (past x.link) moves unfed s
    pub payloads : x.payloads.items ≡ ask.payloads
    pub sent : sent_in moves ≡ take x.sent ask.payloads
    pub within : x.sent ≤ length ask.payloads
    pub left : x.left ≡ ask.count - length (payloads_of (events_in moves))
    pub works : (counts x.link).faults ≡ 0
    pub opened : x.is_open ≡ true → Contains (told s) event.Opened

  -- it was fed all
  abbrev pub IsAt : (L → LinkPast) → (L → LinkCounts) → Asking → Exchange L → List Move → State → Type 0
  IsAt past counts ask x moves s = IsFed past counts ask x moves s []

  -- it goes on, with these payloads more shown
  pub record GoesOn (past : L → LinkPast) (counts : L → LinkCounts) (ask : Asking) (before : List Move) (shown : List ℕ) (x : Exchange L) : Type 0 where
    pub moves : List Move
    pub s : State
    pub at : IsAt past counts ask x moves s
    pub shows : shown_of ask moves ≡ shown_of ask before ++ shown

  -- it goes on, or it has ended
  abbrev pub RoundsOn : {A : Type 0} → (L → LinkPast) → (L → LinkCounts) → Asking → List Move → List ℕ → Result A Outcome → Exchange L → Type 0
  RoundsOn past counts ask before shown (Ok value) x = GoesOn past counts ask before shown x
  RoundsOn past counts ask before shown (Err why) x = Ends ask (past x.link) (counts x.link).faults (shown_of ask before ++ shown) why

-- it doesn't end by a fault of the sink
abbrev pub IsQuiet : {A : Type 0} → Result A Outcome → Type 0
IsQuiet (Ok value) = Unit {0}
IsQuiet (Err outcome.WriteFault) = ⊥
IsQuiet (Err why) = Unit {0}

-- a sink's faults rose at a write fault, and only there
abbrev pub EndCounts : {A : Type 0} → ℕ → ℕ → Result A Outcome → Type 0
EndCounts before after (Ok value) = after ≡ before
EndCounts before after (Err outcome.WriteFault) = Rose before after
EndCounts before after (Err why) = after ≡ before

-- all that was printed is written, where it goes on
abbrev pub IsFlushed : {A : Type 0} → List ℕ → Result A Outcome → Type 0
IsFlushed owes (Ok value) = owes ≡ []
IsFlushed owes (Err why) = Unit {0}
