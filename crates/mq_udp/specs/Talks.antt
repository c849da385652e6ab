-- What a client's talk with a proxy comes to, by how it ends.
use Rattle.std.specs.Prelude.{◌≡◌, ℕ, ◌≤◌, ◌⊎◌, Bool, true, List, [], ◌∷◌, ◌++◌, length, take, Option, Some, None, Contains}
use Rattle.std.specs.List.{flat_map}
use Rattle.mq_client.specs.declared.event.ClientEvent.TheVariants as event
use Rattle.mq_client.specs.State.{State, begun, owed, waiting}
use Rattle.mq_outside.specs.Links.{LinkPast}
use Rattle.mq_play.specs.Script.{IsFrontOf}
use Rattle.mq_play.specs.Text.{bytes_text, newline}
use Rattle.mq_udp.specs.declared.outcome.Outcome.{Outcome}
use Rattle.mq_udp.specs.declared.outcome.Outcome.TheVariants as outcome
use Rattle.mq_udp.specs.Moves.{Move, Goes, came_in, written_in, sent_in, events_in, payloads_of}

-- what isn't told is free
abbrev pub Tells : Option (List ℕ) → List ℕ → Type 0
Tells None bytes = Unit {0}
Tells (Some told) bytes = told ≡ bytes

-- a line in hex for each payload, or a dash where it is empty
abbrev pub lines_text : List (List ℕ) → List ℕ
lines_text payloads = flat_map (λ payload. bytes_text payload ++ newline ∷ []) payloads

-- who asks whom for what
pub record Asking : Type 0 where
  pub h2 : Bool
  pub path : List ℕ
  pub host : List ℕ
  -- what it is to send, and how many payloads it waits for
  pub payloads : List (List ℕ)
  pub count : ℕ

-- The client did these moves. What it was fed is what the link gave, but for some bytes behind that, and what was written is
-- what the link took, where these are told; what it sent are the first of its payloads.
pub record Talked (ask : Asking) (link : LinkPast) (moves : List Move) (unfed : List ℕ) (s : State) : Type 0 where
  pub went : Goes (begun ask.h2 ask.path ask.host) moves s
  pub gave : Tells link.gave (came_in moves ++ unfed)
  pub took : Tells link.took (written_in moves)
  pub sends : (unsent : List (List ℕ)) × (ask.payloads ≡ sent_in moves ++ unsent)

-- the lines of the payloads that came, up to as many as it waits for
abbrev pub shown_of : Asking → List Move → List ℕ
shown_of ask moves = lines_text (take ask.count (payloads_of (events_in moves)))

-- all was sent and written, and as many payloads came as it waits for
pub record IsDone (ask : Asking) (moves : List Move) (s : State) : Type 0 where
  pub all : sent_in moves ≡ ask.payloads
  pub none_owed : owed s ≡ []
  pub none_waits : waiting s ≡ []
  pub enough : ask.count ≤ length (payloads_of (events_in moves))

-- By the outcome: what was shown, and why.
abbrev pub Shows : Asking → List Move → State → List ℕ → Outcome → Type 0
Shows ask moves s out outcome.Done = IsDone ask moves s × (out ≡ shown_of ask moves)
Shows ask moves s out outcome.Early = (IsDone ask moves s → ⊥) × (out ≡ shown_of ask moves)
Shows ask moves s out outcome.OutsideFault = out ≡ shown_of ask moves
Shows ask moves s out outcome.Refused = ((status : ℕ) × Contains (events_in moves) (event.Refused status)) × (out ≡ shown_of ask moves)
Shows ask moves s out outcome.BadPeer = ((code : ℕ) × Contains (events_in moves) (event.BadPeer code)) × (out ≡ shown_of ask moves)
Shows ask moves s out outcome.WriteFault = IsFrontOf out (shown_of ask moves)
Shows ask moves s out outcome.NoMemory = IsFrontOf out (shown_of ask moves)
Shows ask moves s out outcome.ReadFault = ⊥
Shows ask moves s out outcome.BadInput = ⊥

-- the client was fed all that the link gave, but where memory ran out
abbrev pub IsAllFed : List ℕ → Outcome → Type 0
IsAllFed unfed outcome.NoMemory = Unit {0}
IsAllFed unfed outcome.Done = unfed ≡ []
IsAllFed unfed outcome.ReadFault = unfed ≡ []
IsAllFed unfed outcome.WriteFault = unfed ≡ []
IsAllFed unfed outcome.BadInput = unfed ≡ []
IsAllFed unfed outcome.OutsideFault = unfed ≡ []
IsAllFed unfed outcome.Early = unfed ≡ []
IsAllFed unfed outcome.Refused = unfed ≡ []
IsAllFed unfed outcome.BadPeer = unfed ≡ []

-- how often the link failed
abbrev pub link_faults : Outcome → ℕ
link_faults outcome.OutsideFault = 1
link_faults outcome.Done = 0
link_faults outcome.ReadFault = 0
link_faults outcome.WriteFault = 0
link_faults outcome.BadInput = 0
link_faults outcome.NoMemory = 0
link_faults outcome.Early = 0
link_faults outcome.Refused = 0
link_faults outcome.BadPeer = 0

-- the link answered that it ended, where it tells that
abbrev pub HasEnded : Option Bool → Type 0
HasEnded None = Unit {0}
HasEnded (Some ended) = ended ≡ true

-- where it ended early, the tunnel was closed or the link ended
abbrev pub IsOver : LinkPast → List Move → Outcome → Type 0
IsOver link moves outcome.Early = Contains (events_in moves) event.Closed ⊎ HasEnded link.answered_end
IsOver link moves outcome.Done = Unit {0}
IsOver link moves outcome.ReadFault = Unit {0}
IsOver link moves outcome.WriteFault = Unit {0}
IsOver link moves outcome.BadInput = Unit {0}
IsOver link moves outcome.OutsideFault = Unit {0}
IsOver link moves outcome.NoMemory = Unit {0}
IsOver link moves outcome.Refused = Unit {0}
IsOver link moves outcome.BadPeer = Unit {0}

-- How a talk ended: with a link that gave, took and failed so, and what was shown.
pub record Ends (ask : Asking) (link : LinkPast) (faults : ℕ) (out : List ℕ) (why : Outcome) : Type 0 where
  pub moves : List Move
  pub unfed : List ℕ
  pub s : State
  pub talked : Talked ask link moves unfed s
  pub fed : IsAllFed unfed why
  pub shows : Shows ask moves s out why
  pub over : IsOver link moves why
  pub failed : faults ≡ link_faults why
