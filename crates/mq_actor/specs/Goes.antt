-- What a step of a connection does to its tunnels, and to the book.
use Rattle.std.specs.Prelude.{◌≡◌, ◌⊎◌, ℕ, ◌==◌, not, List, [], ◌∷◌, ◌++◌, length, map, filter, Contains}
use Rattle.mq_addr.specs.declared.range.Range.{Range}
use Rattle.mq_talk.specs.declared.book.Call.{Call}
use Rattle.mq_talk.specs.declared.book.Call.TheVariants as call
use Rattle.mq_talk.specs.declared.book.Reply.{Reply}
use Rattle.mq_talk.specs.declared.book.Reply.TheVariants as reply
use Rattle.mq_talk.specs.declared.goal.Goal.{Goal}
use Rattle.mq_machine.specs.State.{Tunnel, Conn, Shared}
use Rattle.mq_held.specs.Answers.{IsFor}

-- a tunnel without what waits in it
pub record Shape : Type 0 where
  pub id : ℕ
  pub stream : ℕ
  pub goal : Goal

abbrev pub shape_of : Tunnel → Shape
shape_of t = record { id = t.id; stream = t.stream; goal = t.goal }

abbrev pub shapes_of : List Tunnel → List Shape
shapes_of ts = map shape_of ts

-- no tunnel came or went, and nothing was written
pub record Stays (old : Conn) (sh : Shared) (tunnels : List Tunnel) (after : Shared) : Type 0 where
  pub tunnels_are : shapes_of tunnels ≡ shapes_of old.tunnels
  pub book : after.book ≡ sh.book

-- a tunnel opened
pub record Opens (old : Conn) (sh : Shared) (tunnels : List Tunnel) (after : Shared) : Type 0 where
  pub stream : ℕ
  pub goal : Goal
  pub routes : List Range
  pub tunnels_are : shapes_of tunnels
      ≡ shapes_of old.tunnels ++ record { id = length sh.book; stream = stream; goal = goal } ∷ []
  pub book : after.book ≡ sh.book ++ record {
    actor = old.actor;
    call = call.Open old.number stream old.actor goal;
    reply = reply.Opened (length sh.book) routes;
  } ∷ []

-- one of its tunnels closed
pub record Closes (old : Conn) (sh : Shared) (tunnels : List Tunnel) (after : Shared) : Type 0 where
  pub closed : Tunnel
  pub has : Contains old.tunnels closed
  pub tunnels_are : shapes_of tunnels ≡ filter (λ (x : Shape). not (x.id == closed.id)) (shapes_of old.tunnels)
  pub book : after.book
      ≡ sh.book ++ record { actor = old.actor; call = call.Close closed.id; reply = reply.Closed } ∷ []

-- addresses or ways of a tunnel were asked for, and no tunnel came or went
pub record Tells (old : Conn) (sh : Shared) (tunnels : List Tunnel) (after : Shared) : Type 0 where
  pub tunnel : ℕ
  pub asked : Call
  pub said : Reply
  pub of : IsFor tunnel asked
  pub tunnels_are : shapes_of tunnels ≡ shapes_of old.tunnels
  pub book : after.book ≡ sh.book ++ record { actor = old.actor; call = asked; reply = said } ∷ []

-- of a connection with these tunnels then
abbrev pub Goes : Conn → Shared → List Tunnel → Shared → Type 0
Goes old sh tunnels after =
    Stays old sh tunnels after ⊎ (Opens old sh tunnels after ⊎ (Closes old sh tunnels after ⊎ Tells old sh tunnels after))
