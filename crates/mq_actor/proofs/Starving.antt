-- What a connection wanted was answered, and it had no memory to hear that.
use Rattle.std.proofs.Common.{◌≡◌, ◌≢◌, ◌⊎◌, ℕ, true, inl, inr, List, [], refl, ap, ◌∙◌}
use Rattle.mq_talk.specs.declared.book.Call.{Call}
use Rattle.mq_talk.specs.declared.book.Call.TheVariants as call
use Rattle.mq_talk.specs.declared.book.Reply.{Reply}
use Rattle.mq_talk.specs.declared.book.Reply.TheVariants as reply
use Rattle.mq_talk.specs.declared.goal.Goal.{Goal}
use Rattle.mq_machine.specs.State.{Conn, Tunnel, Shared}
use Rattle.mq_machine.specs.Want.{Want, Nothing, Say, Bind, Ask, Judge, Push, Send, Over, Answer, Said, Bound, Replied, Judged, Pushed, Put, want_of}
use Rattle.mq_machine.specs.Shared.{Answers, Asks}
use Rattle.mq_machine.specs.Silent.{takes_memory, tunnels_after}
use Rattle.mq_conn.specs.declared.conn.Conn.{Conn as Core}
use Rattle.mq_conn.specs.Conns.{IsConn}
use Rattle.mq_held.specs.Answers.{IsFor}
use Rattle.mq_step.proofs.Cores.{open_alive}
use Rattle.mq_actor.specs.Goes.{shapes_of, Goes}
use Rattle.mq_actor.proofs.Replies.{stays_with, opens_with, tells_with, Opened, Full, asked_open, Told, Shut, asked_told}

open_heard : (c : Core) (s : Conn) (sh after : Shared) (conn id actor : ℕ) (goal : Goal) (said : Reply) (ts : List Tunnel) → IsConn c s
    → want_of s ≡ Ask (call.Open conn id actor goal) → Asks sh s.actor (call.Open conn id actor goal) said after
    → ts ≡ tunnels_after (Ask (call.Open conn id actor goal)) (Replied said) s.tunnels → Goes s sh ts after
open_heard c s sh after conn id actor goal said ts conn_is want asks ts_are = by_said (asked_open sh after s.actor conn id actor goal said asks) where
  left : Reply → List Tunnel
  left r = tunnels_after (Ask (call.Open conn id actor goal)) (Replied r) s.tunnels

  by_said : Opened sh after s.actor (call.Open conn id actor goal) said ⊎ Full sh after said → Goes s sh ts after
  by_said (inl x) =
      let alive = open_alive c s conn id actor goal conn_is want in
      opens_with s sh ts after conn id actor goal x.tunnel x.routes [] alive.1 alive.2 x.tunnel_is (ts_are ∙ ap left x.said_is) x.wrote
  by_said (inr x) = inl (record { tunnels_are = ap shapes_of (ts_are ∙ ap left x.said_is); book = x.book })

tell_heard : (s : Conn) (sh after : Shared) (tunnel : ℕ) (asked : Call) (said : Reply) (ts : List Tunnel) → IsFor tunnel asked → Replied said ≢ Replied reply.Closed
    → Asks sh s.actor asked said after → ts ≡ s.tunnels → Goes s sh ts after
tell_heard s sh after tunnel asked said ts of place asks ts_are = by_said (asked_told sh after s.actor tunnel asked said of asks) where
  by_said : Told sh after s.actor asked said ⊎ Shut sh after s.actor tunnel said → Goes s sh ts after
  by_said (inl x) = tells_with s sh ts after tunnel asked said of (ap shapes_of ts_are) x.wrote
  by_said (inr x) = absurd (place (ap Replied x.said_is))

ask_heard : (c : Core) (s : Conn) (sh after : Shared) (asked : Call) (said : Reply) (ts : List Tunnel) → IsConn c s → want_of s ≡ Ask asked
    → takes_memory (Ask asked) ≡ true → Replied said ≢ Replied reply.Closed → Asks sh s.actor asked said after → ts ≡ tunnels_after (Ask asked) (Replied said) s.tunnels → Goes s sh ts after
ask_heard c s sh after (call.Open conn id actor goal) said ts conn_is want takes place asks ts_are =
    open_heard c s sh after conn id actor goal said ts conn_is want asks ts_are
ask_heard c s sh after (call.Close tunnel) said ts conn_is want takes place asks ts_are = absurd cc
ask_heard c s sh after (call.Assign tunnel list) said ts conn_is want takes place asks ts_are =
    tell_heard s sh after tunnel (call.Assign tunnel list) said ts refl place asks ts_are
ask_heard c s sh after (call.Advertise tunnel ranges) said ts conn_is want takes place asks ts_are =
    tell_heard s sh after tunnel (call.Advertise tunnel ranges) said ts refl place asks ts_are

-- an answer for which it had no memory
pub want_heard : (c : Core) (s : Conn) (sh after : Shared) (w : Want) (a : Answer) (ts : List Tunnel) → IsConn c s → want_of s ≡ w → takes_memory w ≡ true
    → a ≢ Replied reply.Closed
    → Answers s.actor sh w a after → ts ≡ tunnels_after w a s.tunnels → Goes s sh ts after
want_heard c s sh after Nothing a ts conn want takes place answers ts_are = absurd cc
want_heard c s sh after Say a ts conn want takes place answers ts_are = absurd cc
want_heard c s sh after (Bind id goal) Said ts conn want takes place answers ts_are = absurd answers
want_heard c s sh after (Bind id goal) (Bound did) ts conn want takes place answers ts_are = stays_with s sh ts after (ap shapes_of ts_are) answers
want_heard c s sh after (Bind id goal) (Replied said) ts conn want takes place answers ts_are = absurd answers
want_heard c s sh after (Bind id goal) (Judged v at) ts conn want takes place answers ts_are = absurd answers
want_heard c s sh after (Bind id goal) (Pushed did) ts conn want takes place answers ts_are = absurd answers
want_heard c s sh after (Bind id goal) (Put port limit) ts conn want takes place answers ts_are = absurd answers
want_heard c s sh after (Ask asked) Said ts conn want takes place answers ts_are = absurd answers
want_heard c s sh after (Ask asked) (Bound did) ts conn want takes place answers ts_are = absurd answers
want_heard c s sh after (Ask asked) (Replied said) ts conn want takes place answers ts_are =
    ask_heard c s sh after asked said ts conn want takes place answers ts_are
want_heard c s sh after (Ask asked) (Judged v at) ts conn want takes place answers ts_are = absurd answers
want_heard c s sh after (Ask asked) (Pushed did) ts conn want takes place answers ts_are = absurd answers
want_heard c s sh after (Ask asked) (Put port limit) ts conn want takes place answers ts_are = absurd answers
want_heard c s sh after (Judge tunnel k flow) a ts conn want takes place answers ts_are = absurd cc
want_heard c s sh after (Push parcel) a ts conn want takes place answers ts_are = absurd cc
want_heard c s sh after (Send tunnel k payload) a ts conn want takes place answers ts_are = absurd cc
want_heard c s sh after (Over why) a ts conn want takes place answers ts_are = absurd cc
