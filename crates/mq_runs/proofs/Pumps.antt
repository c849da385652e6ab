-- The pump's turn lets no more of a payload be than there was.
use Rattle.std.proofs.Common.{◌≡◌, ◌≤◌, ◌+◌, ℕ, Bool, true, false, cond, min, List, [], ◌∷◌, length, nat_lt, slice_get, slice_set, Option, Some, None, refl, sym, subst, ap, arith}
use Rattle.std.specs.Prelude.{◌==◌}
use Rattle.std.specs.Bool.{MatchBool}
use Rattle.std.specs.Option.{unwrap_or}
use Rattle.mq_addr.specs.declared.range.Flow.{Flow}
use Rattle.mq_outside.specs.Counts.{last_count}
use Rattle.mq_outside.specs.Nets.{Arrival}
use Rattle.mq_talk.specs.declared.note.From.{From}
use Rattle.mq_talk.specs.declared.note.From.TheVariants as source
use Rattle.mq_talk.specs.declared.note.Note.{Note}
use Rattle.mq_talk.specs.declared.note.Note.TheVariants as note
use Rattle.mq_talk.specs.declared.place.Cause.TheVariants as cause
use Rattle.mq_talk.specs.declared.place.Origin.TheVariants as origin
use Rattle.mq_talk.specs.declared.place.Parcel.{Parcel}
use Rattle.mq_talk.specs.declared.place.Verdict.{Verdict}
use Rattle.mq_talk.specs.declared.place.Verdict.TheVariants as verdict
use Rattle.mq_talk.specs.Judging.{IsJudged}
use Rattle.mq_talk.specs.Mails.{box_at, has_room}
use Rattle.mq_talk.specs.Packets.{flow_of}
use Rattle.mq_machine.specs.Shared.{inbox_of}
use Rattle.mq_machine.specs.State.{Pump, Shared}
use Rattle.mq_machine.specs.Turn.{source_of, PumpTry, PushHeld, SendHeld, SendNext, Receives, PumpNext, parcel_pushed, net_sent, net_popped, net_judged, IsMet, IsReceived, with_arrivals, last_of}
use Rattle.mq_play.proofs.Lists.{if_both, some_same}
use Rattle.mq_runs.specs.Ends.{is_same, IsCounted}
use Rattle.mq_runs.proofs.Flight.{Key, hit, past_less, end_of}
use Rattle.mq_runs.proofs.Moving.{parcel_hit, in_shared, counted_step, pushing_less}
use Rattle.mq_runs.proofs.Took.{from_on}
use Rattle.mq_runs.proofs.Walks.{map_was}
use Rattle.mq_runs.proofs.Workers.{box_sum}

-- a parcel that it holds for pushing: one of the network wasn't pushed
abbrev pub push_hit : Key → Parcel → ℕ
push_hit k parcel = cond (is_same (source_of parcel.from) source.Net) (hit k (source_of parcel.from) parcel.n) (parcel_hit k parcel)

push_more : (k : Key) (parcel : Parcel) → parcel_hit k parcel ≤ push_hit k parcel
push_more k parcel = by_test (is_same (source_of parcel.from) source.Net) where
  by_test : (b : Bool) → parcel_hit k parcel ≤ cond b (hit k (source_of parcel.from) parcel.n) (parcel_hit k parcel)
  by_test true = past_less k (source_of parcel.from) parcel.n
  by_test false = omega arith

abbrev pub in_push : Key → Option Parcel → ℕ
in_push k None = 0
in_push k (Some parcel) = push_hit k parcel

abbrev pub in_hand : Key → Option Parcel → ℕ
in_hand k None = 0
in_hand k (Some parcel) = parcel_hit k parcel

-- the packet may still come from the network
abbrev pub net_left : From → ℕ → ℕ → ℕ
net_left source.Net received n = from_on received n
net_left (source.Tunnel t) received n = 0
net_left (source.Port t) received n = 0

abbrev pub in_pump : Key → Pump → ℕ
in_pump k p = in_push k p.to_push + in_hand k p.to_send + net_left k.from p.net.received k.number

-- what is left of a step of the pump
abbrev pub PumpMoves : Key → Pump → Shared → Note × Pump × Shared → Type 0
PumpMoves k p sh d = end_of k d.0 + in_pump k d.1 + in_shared k d.2 ≤ in_pump k p + in_shared k sh

module _ (k : Key) where
  pushed_moves : (p : Pump) (sh : Shared) (parcel : Parcel) (b : Bool) → p.to_push ≡ Some parcel → PumpMoves k p sh (parcel_pushed p sh parcel b)
  pushed_moves p sh parcel true is = let had = ap (in_push k) is in let more = push_more k parcel in let boxes = pushing_less k true sh parcel in omega (arith, had, more, boxes)
  pushed_moves p sh parcel false is = let had = ap (in_push k) is in let more = push_more k parcel in omega (arith, had, more)

  -- a parcel that it held or took is sent, or not
  sent_moves : (p : Pump) (sh old : Shared) (parcel : Parcel) → in_push k p.to_push + parcel_hit k parcel + net_left k.from p.net.received k.number + in_shared k sh ≤ in_pump k p + in_shared k old → PumpMoves k p old (net_sent p sh parcel)
  sent_moves p sh old parcel less =
      if_both (PumpMoves k p old) p.net.holds.send_fails _ _ (omega (arith, less))
      (if_both (PumpMoves k p old) p.net.holds.send_waits _ _ (omega (arith, less)) (omega (arith, less)))

  box_was : (o : Option (List Parcel)) (parcel : Parcel) (rest : List Parcel) → unwrap_or o [] ≡ parcel ∷ rest → o ≡ Some (parcel ∷ rest)
  box_was None parcel rest e = absurd cc
  box_was (Some box) parcel rest e = ap Some e

  popped_moves : (p : Pump) (sh : Shared) (i : ℕ) (box : List Parcel) (d : Note × Pump × Shared) → box_at sh.boxes i ≡ box → net_popped p sh i box ≡ Some d → PumpMoves k p sh d
  popped_moves p sh i [] d is e = absurd cc
  popped_moves p sh i (parcel ∷ rest) d is e =
      let sum = box_sum k sh.boxes i parcel rest (box_was (slice_get sh.boxes i) parcel rest is) in
      subst (PumpMoves k p sh) (some_same e) (sent_moves p (record sh { boxes = slice_set sh.boxes i rest }) sh parcel (omega (arith, sum)))

  -- the packet that is received is counted
  net_step : (f : From) (r n : ℕ) → IsCounted f n → cond (is_same source.Net f) (cond (r == n) 1 0) 0 + net_left f (min (r + 1) last_count) n ≤ net_left f r n
  net_step source.Net r n h = counted_step r n h
  net_step (source.Tunnel t) r n h = omega arith
  net_step (source.Port t) r n h = omega arith

  module _ (counted : IsCounted k.from k.number) (p : Pump) (others : List Arrival) (sh : Shared) where
    abbrev now : Pump
    now = record p { net = with_arrivals others p.net }

    judged_moves : (packet : List ℕ) (said : Verdict) → PumpMoves k p sh (net_judged now sh p.net.received packet said)
    judged_moves packet (verdict.Pass to) = let step = net_step k.from p.net.received k.number counted in let less = past_less k source.Net p.net.received in omega (arith, step, less)
    judged_moves packet verdict.Source = let step = net_step k.from p.net.received k.number counted in let less = past_less k source.Net p.net.received in omega (arith, step, less)
    judged_moves packet verdict.NoRoute = let step = net_step k.from p.net.received k.number counted in let less = past_less k source.Net p.net.received in omega (arith, step, less)

    fits_moves : (b : Bool) (packet : List ℕ) (flow : Flow) (d : Note × Pump × Shared)
        → MatchBool b (d ≡ (note.Dropped source.Net p.net.received cause.TooLong, now, sh)) ((said : Verdict) × IsJudged sh.config sh.book origin.Net flow said × (d ≡ net_judged now sh p.net.received packet said)) → PumpMoves k p sh d
    fits_moves true packet flow d x = let step = net_step k.from p.net.received k.number counted in let less = past_less k source.Net p.net.received in subst (PumpMoves k p sh) (sym x) (omega (arith, step, less))
    fits_moves false packet flow d x = subst (PumpMoves k p sh) (sym x.2) (judged_moves packet x.0)

    met_moves : (packet : List ℕ) (o : Option Flow) (d : Note × Pump × Shared) → IsMet now sh p.net.received packet o d → PumpMoves k p sh d
    met_moves packet None d x = let step = net_step k.from p.net.received k.number counted in let less = past_less k source.Net p.net.received in subst (PumpMoves k p sh) (sym x) (omega (arith, step, less))
    met_moves packet (Some flow) d x = fits_moves (nat_lt p.mtu (length packet)) packet flow d x

  received_moves : (p : Pump) (sh : Shared) (arrived : List Arrival) (d : Note × Pump × Shared) → IsCounted k.from k.number → IsReceived p sh arrived d → PumpMoves k p sh d
  received_moves p sh [] d counted x = absurd x
  received_moves p sh (first ∷ others) d counted x = met_moves counted p others sh first.packet (flow_of first.packet) d x

  pub pump_moves : (p : Pump) (sh : Shared) (try : PumpTry) (d : Note × Pump × Shared) → IsCounted k.from k.number → PumpNext p sh try d → PumpMoves k p sh d
  pump_moves p sh PushHeld d counted x =
      let was = map_was (λ (parcel : Parcel). parcel_pushed p sh parcel (has_room sh.boxes (inbox_of sh.boxes parcel.to))) p.to_push d x in
      subst (PumpMoves k p sh) was.2 (pushed_moves p sh was.0 (has_room sh.boxes (inbox_of sh.boxes was.0.to)) was.1)
  pump_moves p sh SendHeld d counted x =
      let was = map_was (net_sent p sh) p.to_send d x in
      let had = ap (in_hand k) was.1 in
      subst (PumpMoves k p sh) was.2 (sent_moves p sh sh was.0 (omega (arith, had)))
  pump_moves p sh SendNext d counted x = popped_moves p sh (last_of sh.boxes) (box_at sh.boxes (last_of sh.boxes)) d refl x
  pump_moves p sh Receives d counted x = received_moves p sh p.net.holds.arrived d counted x
