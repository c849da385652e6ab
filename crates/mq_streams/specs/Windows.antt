-- That no window is passed (RFC 9113, section 6.9.1).
use Rattle.std.specs.Prelude.{◌≡◌, ◌≤◌, [], ◌∷◌, true}
use Rattle.mq_streams.specs.History.{Event, History, Arrived, Discarded, Sent, Extended, Shifted}
use Rattle.mq_streams.specs.Answers.{receive_window, connection_receive_window, send_window, connection_send_window, grant_of, can_shift}
use Rattle.mq_streams.specs.declared.answers.Granted.TheVariants.{Taken}

-- What an event keeps to, by what happened before it: DATA that came or was sent is within the windows in which it counts,
-- and what makes a window grow leaves it within the largest.
abbrev pub KeepsTo : Event → History → Type 0
KeepsTo (Arrived s n) h = (n ≤ receive_window s h) × (n ≤ connection_receive_window h)
KeepsTo (Discarded s n) h = n ≤ connection_receive_window h
KeepsTo (Sent s n) h = (n ≤ send_window s h) × (n ≤ connection_send_window h)
KeepsTo (Extended s n) h = grant_of s n h ≡ Taken
KeepsTo (Shifted value) h = can_shift value h ≡ true
KeepsTo _ h = Unit {0}

-- each event kept to that
abbrev pub PassesNoWindow : History → Type 0
PassesNoWindow [] = Unit {0}
PassesNoWindow (event ∷ earlier) = KeepsTo event earlier × PassesNoWindow earlier
