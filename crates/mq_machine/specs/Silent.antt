-- Steps that were refused memory: they have no note.
use Rattle.std.specs.Prelude.{◌≡◌, ◌≢◌, ℕ, Bool, true, false, List, [], ◌∷◌, ◌++◌, drop, slice_get, slice_set, Some, None}
use Rattle.mq_talk.specs.declared.book.Call.TheVariants as call
use Rattle.mq_talk.specs.declared.book.Reply.TheVariants as reply
use Rattle.mq_talk.specs.declared.place.Parcel.{Parcel}
use Rattle.mq_machine.specs.State.{held_of, Tunnel, Held, Worker, Shared, State}
use Rattle.mq_machine.specs.Want.{Want, Say, Bind, Ask, Answer, Said, Replied, want_of}
use Rattle.mq_talk.specs.Mails.{box_at}
use Rattle.mq_machine.specs.Shared.{Answers, Ordered}
use Rattle.mq_machine.specs.Steps.{starved}
use Rattle.mq_outside.specs.Links.{behind}
use Rattle.mq_machine.specs.Turn.{Try, Act, Read, Seat, Offers, Inbox, Of, turn_of, try_of, replace, most_read, Actor, WorkerOf, ThePump, has_turn}

-- how far a step had come when it was refused memory: whether it had read a piece, and whether it had asked the outside
pub record Reached : Type 0 where
  pub took : Bool
  pub asked : Bool

-- the pieces of the link, of which the front one was taken or wasn't
abbrev pub Leaves : Bool → Try → List (List ℕ) → List (List ℕ) → Type 0
Leaves false try old new = new ≡ old
Leaves true try [] new = ⊥
Leaves true try (first ∷ others) new = (try ≡ Read) × (new ≡ behind (drop most_read first) others)

-- Its tunnels behind an answer of the book that it had no memory to hear: the tunnel that opened is one of them, so that it is
-- closed.
abbrev pub tunnels_after : Want → Answer → List Tunnel → List Tunnel
tunnels_after (Ask (call.Open conn stream actor goal)) (Replied (reply.Opened tunnel routes)) tunnels =
    tunnels ++ record { id = tunnel; stream = stream; goal = goal; waiting = [] } ∷ []
tunnels_after want answer tunnels = tunnels

-- what takes memory: a bind, and calls other than Close
abbrev pub takes_memory : Want → Bool
takes_memory (Bind stream goal) = true
takes_memory (Ask (call.Open conn stream actor goal)) = true
takes_memory (Ask (call.Assign tunnel asked)) = true
takes_memory (Ask (call.Advertise tunnel ranges)) = true
takes_memory want = false

-- what may be refused it: that, and a note that needs nothing of the outside, whose text takes some. To judge, to push, to send, to
-- close a tunnel and to end take none.
abbrev pub may_starve : Want → Bool
may_starve Say = true
may_starve want = takes_memory want

-- what it wanted was answered all the same
pub record WasAnswered (old : Held) (sh : Shared) (try : Try) (answer : Answer) (tunnels : List Tunnel) (after : Shared) : Type 0 where
  pub tries : try ≡ Act
  pub takes : takes_memory (want_of old.conn) ≡ true
  pub place : answer ≢ Replied reply.Closed
  pub answers : Answers old.conn.actor sh (want_of old.conn) answer after
  pub tunnels_are : tunnels ≡ tunnels_after (want_of old.conn) answer old.conn.tunnels

abbrev pub Heard : Bool → Held → Shared → Try → Answer → List Tunnel → Shared → Type 0
Heard false old sh try answer tunnels after = (answer ≡ Said) × (tunnels ≡ old.conn.tunnels) × (after ≡ sh)
Heard true old sh try answer tunnels after = WasAnswered old sh try answer tunnels after

-- The connection whose turn it was is ending with NoMemory.
pub record ConnStarves (old : Worker) (sh : Shared) (number : ℕ) (reached : Reached) (answer : Answer) (new : Worker) (after : Shared) : Type 0 where
  pub held : Held
  pub try : Try
  pub pieces : List (List ℕ)
  pub tunnels : List Tunnel
  pub has : held_of old number ≡ Some held
  pub tries : try_of held ≡ Some try
  pub takes : try ≡ Act → may_starve (want_of held.conn) ≡ true
  pub leaves : Leaves reached.took try held.link.pieces pieces
  pub heard : Heard reached.asked held sh try answer tunnels after
  pub new_is : new ≡ record old {
    conns = replace number (Some (record held {
      link = record held.link { pieces = pieces };
      conn = record (starved held.conn) { tunnels = tunnels };
    })) old.conns;
  }

-- an accept that was refused memory changes nothing; to take a packet from the inbox takes none
abbrev pub SeatStarves : Worker → Shared → Seat → Reached → Answer → Worker → Shared → Type 0
SeatStarves old sh (Of number) reached answer new after = ConnStarves old sh number reached answer new after
SeatStarves old sh Offers reached answer new after = (reached ≡ record { took = false; asked = false }) × (answer ≡ Said) × (new ≡ old) × (after ≡ sh)
SeatStarves old sh Inbox reached answer new after = ⊥

-- the seat whose turn it was was refused memory
pub record WorkerStarves (old : Worker) (box : List Parcel) (sh : Shared) (reached : Reached) (answer : Answer) (new : Worker) (after : Shared) : Type 0 where
  pub seat : Seat
  pub turn : turn_of old box ≡ Some seat
  pub starves : SeatStarves old sh seat reached answer new after

pub record WorkerSilent (old : State) (number : ℕ) (reached : Reached) (new : State) : Type 0 where
  pub worker : Worker
  pub next : Worker
  pub answer : Answer
  pub shared : Shared
  pub after : Shared
  pub at : slice_get old.workers number ≡ Some worker
  pub starves : WorkerStarves worker (box_at old.shared.boxes worker.id) old.shared reached answer next shared
  pub ordered : Ordered old.shared.orders answer after.orders
  pub after_is : after ≡ record shared { orders = after.orders }
  pub new_is : new ≡ record old { workers = slice_set old.workers number next; shared = after }

-- a step of this actor, which had a turn, was refused memory when it had come so far
abbrev pub SilentTurn : State → Actor → Reached → State → Type 0
SilentTurn old (WorkerOf number) reached new = WorkerSilent old number reached new
SilentTurn old ThePump reached new = (reached ≡ record { took = false; asked = false }) × (has_turn old ThePump ≡ true) × (new ≡ old)
