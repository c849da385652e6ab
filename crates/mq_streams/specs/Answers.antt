-- What each call answers, by what happened before it, and what has happened after it.
use Rattle.std.specs.Prelude.{ℕ, ◌+◌, ◌-◌, ◌%◌, ◌==◌, ◌∷◌, length, Bool, not, ◌&&◌, ◌||◌, min, nat_lt, nat_le, Option, Some, None, option_map, find, if◌then◌else◌}
use Rattle.std.specs.List.{list_all}
use Rattle.mq_streams.specs.History.{History, first_window, Opened, TurnedAway, Arrived, Discarded, GivenBack, Extended, total, arrived_on, arrived, consumed_on, consumed, given_back_on, extended_on, sent_on, sent, initial, highest, live, is_live, has_finished}
use Rattle.mq_streams.specs.Balance.{stays_within}
use Rattle.mq_streams.specs.declared.answers.Began.{Began}
use Rattle.mq_streams.specs.declared.answers.Began.TheVariants as began
use Rattle.mq_streams.specs.declared.answers.Counted.{Counted}
use Rattle.mq_streams.specs.declared.answers.Counted.TheVariants as counted
use Rattle.mq_streams.specs.declared.answers.Granted.{Granted}
use Rattle.mq_streams.specs.declared.answers.Granted.TheVariants as granted

-- ---- windows, in bytes. A subtraction stops at 0, where nothing may be sent

-- what the client may still send on a stream, and on the connection
abbrev pub receive_window : ℕ → History → ℕ
receive_window id h = first_window + total (given_back_on id) h - total (arrived_on id) h

abbrev pub connection_receive_window : History → ℕ
connection_receive_window h = first_window + total (given_back_on 0) h - total arrived h

-- what the server may still send on a stream, and on the connection
abbrev pub send_window : ℕ → History → ℕ
send_window id h = initial h + total (extended_on id) h - total (sent_on id) h

abbrev pub connection_send_window : History → ℕ
connection_send_window h = first_window + total (extended_on 0) h - total sent h

-- what is consumed and not yet given back, on a stream and on the connection
abbrev pub to_give_back : ℕ → History → ℕ
to_give_back id h = total (consumed_on id) h - total (given_back_on id) h

abbrev pub connection_to_give_back : History → ℕ
connection_to_give_back h = total consumed h - total (given_back_on 0) h

-- ---- the calls

-- only the client begins streams, so an even id and one above the highest are idle (RFC 9113, section 5.1.1)
abbrev pub is_idle : ℕ → History → Bool
is_idle id h = not (id == 0) && (id % 2 == 0 || nat_lt (highest h) id)

-- the ids of new streams rise, and at most 100 are live (RFC 9113, sections 5.1.1 and 5.1.2)
abbrev pub begun : ℕ → History → Began
begun id h =
    if id % 2 == 0 then began.BadId
    else (if nat_le id (highest h) then began.Old
    else (if nat_le 100 (length (live h)) then began.Refused
    else began.Live))

abbrev pub after_begin : Began → ℕ → History → History
after_begin began.Live id h = Opened id ∷ h
after_begin began.Refused id h = TurnedAway id ∷ h
after_begin began.Old id h = h
after_begin began.BadId id h = h

-- DATA at its stream (RFC 9113, sections 5.1 and 6.9)
abbrev pub stream_count_of : ℕ → ℕ → History → Counted
stream_count_of id size h =
    if not (is_live id h) || has_finished id h then counted.Ignored
    else (if nat_lt (receive_window id h) size then counted.OverStream
    else counted.Yes)

-- DATA: the connection's window is tested first
abbrev pub count_of : ℕ → ℕ → History → Counted
count_of id size h =
    if nat_lt (connection_receive_window h) size then counted.OverConnection
    else (if is_idle id h then counted.Idle
    else stream_count_of id size h)

abbrev pub after_count : Counted → ℕ → ℕ → History → History
after_count counted.Yes id size h = Arrived id size ∷ h
after_count counted.Ignored id size h = Discarded id size ∷ h
after_count counted.OverStream id size h = Discarded id size ∷ h
after_count counted.OverConnection id size h = h
after_count counted.Idle id size h = h

-- the stream of the next WINDOW_UPDATE and its amount: the connection's first, then those of the live streams in
-- their order, each only where 16,384 bytes wait to be given back
abbrev pub next_update : History → Option (ℕ × ℕ)
next_update h =
    if nat_le 16384 (connection_to_give_back h) then Some (0, connection_to_give_back h)
    else option_map (λ id. (id, to_give_back id h)) (find (λ id. nat_le 16384 (to_give_back id h)) (live h))

abbrev pub after_update : Option (ℕ × ℕ) → History → History
after_update None h = h
after_update (Some update) h = GivenBack update.0 update.1 ∷ h

-- WINDOW_UPDATE, of the connection where the id is 0 (RFC 9113, section 6.9)
abbrev pub grant_of : ℕ → ℕ → History → Granted
grant_of id amount h =
    if is_idle id h then granted.Idle
    else (if not (id == 0) && not (is_live id h) then granted.Ignored
    else (if amount == 0 then granted.Zero
    else (if id == 0
    then (if stays_within (first_window + total (extended_on 0) h + amount) (total sent h) then granted.Taken else granted.Over)
    else (if stays_within (initial h + total (extended_on id) h + amount) (total (sent_on id) h) then granted.Taken else granted.Over))))

abbrev pub after_grant : Granted → ℕ → ℕ → History → History
after_grant granted.Taken id amount h = Extended id amount ∷ h
after_grant granted.Ignored id amount h = h
after_grant granted.Idle id amount h = h
after_grant granted.Zero id amount h = h
after_grant granted.Over id amount h = h

-- what may be sent on a stream: the lesser of its window and of the connection's
abbrev pub room_of : ℕ → History → ℕ
room_of id h = min (send_window id h) (connection_send_window h)

-- the window of each live stream stays within the largest where this is the initial size
abbrev pub can_shift : ℕ → History → Bool
can_shift value h = list_all (λ id. stays_within (value + total (extended_on id) h) (total (sent_on id) h)) (live h)
