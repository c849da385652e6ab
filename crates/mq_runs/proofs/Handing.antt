-- In a run the pump pushes what passed, or drops it as an inbox is full, in order, or holds it.
use Rattle.std.proofs.Common.{◌≡◌, ℕ, Bool, true, false, cond, List, [], ◌∷◌, ◌++◌, length, nat_lt, Option, Some, None, refl, sym, subst, ap, ◌∙◌, append-nil, append_assoc}
use Rattle.std.specs.Bool.{MatchBool}
use Rattle.std.specs.List.{flat_map}
use Rattle.std.specs.Option.{is_some}
use Rattle.std.specs.Prelude.{slice_set}
use Rattle.mq_addr.specs.declared.range.Flow.{Flow}
use Rattle.mq_outside.specs.Nets.{Arrival}
use Rattle.mq_talk.specs.declared.note.From.{From}
use Rattle.mq_talk.specs.declared.note.From.TheVariants as source
use Rattle.mq_talk.specs.declared.note.Note.{Note}
use Rattle.mq_talk.specs.declared.note.Note.TheVariants as note
use Rattle.mq_talk.specs.declared.place.Cause.TheVariants as cause
use Rattle.mq_talk.specs.declared.place.Origin.TheVariants as origin
use Rattle.mq_talk.specs.declared.place.Parcel.{Parcel}
use Rattle.mq_talk.specs.declared.place.Verdict.{Verdict}
use Rattle.mq_talk.specs.declared.place.Verdict.TheVariants as verdict
use Rattle.mq_talk.specs.Judging.{IsJudged}
use Rattle.mq_talk.specs.Mails.{box_at, has_room}
use Rattle.mq_talk.specs.Packets.{flow_of}
use Rattle.mq_machine.specs.declared.event.Event.{Event}
use Rattle.mq_machine.specs.declared.event.Event.TheVariants as event
use Rattle.mq_machine.specs.Shared.{inbox_of}
use Rattle.mq_machine.specs.State.{Pump, Shared, State}
use Rattle.mq_machine.specs.Turn.{WorkerOf, ThePump, PumpTry, PushHeld, SendHeld, SendNext, Receives, pump_try, PumpNext, parcel_pushed, net_sent, net_popped, net_judged, IsMet, IsReceived, with_arrivals, last_of}
use Rattle.mq_play.specs.declared.plan.Plan.{Plan}
use Rattle.mq_play.specs.Events.{state_of, happen}
use Rattle.mq_play.proofs.Lists.{if_both, some_same}
use Rattle.mq_runs.specs.Inboxes.{held_names, passed_in, pushed_or_full_in, passed_by, pushed_or_full_by}
use Rattle.mq_runs.specs.Runs.{Moment, Happened, Noted, Refused, Goes, Run}
use Rattle.mq_runs.proofs.Filling.{behind, stays}
use Rattle.mq_runs.proofs.Walks.{map_was}

-- what a step of the pump lets pass, and what it does with what passed
abbrev Hands : Pump → Note × Pump × Shared → Type 0
Hands p d = held_names p.to_push ++ passed_in d.0 ≡ pushed_or_full_in d.0 ++ held_names d.1.to_push

pushed_hands : (p : Pump) (sh : Shared) (parcel : Parcel) (b : Bool) → p.to_push ≡ Some parcel → Hands p (parcel_pushed p sh parcel b)
pushed_hands p sh parcel true is = ap (λ (o : Option Parcel). held_names o ++ []) is
pushed_hands p sh parcel false is = ap (λ (o : Option Parcel). held_names o ++ []) is

sent_hands : (p : Pump) (sh : Shared) (parcel : Parcel) → Hands p (net_sent p sh parcel)
sent_hands p sh parcel =
    if_both (Hands p) p.net.holds.send_fails _ _ (append-nil (held_names p.to_push)) (if_both (Hands p) p.net.holds.send_waits _ _ (append-nil (held_names p.to_push)) (append-nil (held_names p.to_push)))

next_hands : (p : Pump) (sh : Shared) (i : ℕ) (box : List Parcel) (d : Note × Pump × Shared) → net_popped p sh i box ≡ Some d → Hands p d
next_hands p sh i [] d e = absurd cc
next_hands p sh i (parcel ∷ rest) d e = subst (Hands p) (some_same e) (sent_hands p (record sh { boxes = slice_set sh.boxes i rest }) parcel)

module _ (p : Pump) (sh : Shared) (others : List Arrival) (none : p.to_push ≡ None) where
  abbrev now : Pump
  now = record p { net = with_arrivals others p.net }

  -- a packet that is dropped as it is received
  dropped_hands : (said : Note) → passed_in said ≡ [] → pushed_or_full_in said ≡ [] → held_names p.to_push ++ passed_in said ≡ pushed_or_full_in said ++ held_names p.to_push
  dropped_hands said no_pass no_push =
      ap (λ (l : List (From × ℕ)). held_names p.to_push ++ l) no_pass ∙ (append-nil (held_names p.to_push) ∙ sym (ap (λ (l : List (From × ℕ)). l ++ held_names p.to_push) no_push))

  judged_hands : (packet : List ℕ) (said : Verdict) → Hands p (net_judged now sh p.net.received packet said)
  judged_hands packet (verdict.Pass to) = ap (λ (o : Option Parcel). held_names o ++ (source.Net, p.net.received) ∷ []) none
  judged_hands packet verdict.Source = dropped_hands (note.Dropped source.Net p.net.received cause.Source) refl refl
  judged_hands packet verdict.NoRoute = dropped_hands (note.Dropped source.Net p.net.received cause.NoRoute) refl refl

  fits_hands : (b : Bool) (packet : List ℕ) (flow : Flow) (d : Note × Pump × Shared)
      → MatchBool b (d ≡ (note.Dropped source.Net p.net.received cause.TooLong, now, sh)) ((said : Verdict) × IsJudged sh.config sh.book origin.Net flow said × (d ≡ net_judged now sh p.net.received packet said)) → Hands p d
  fits_hands true packet flow d x = subst (Hands p) (sym x) (dropped_hands (note.Dropped source.Net p.net.received cause.TooLong) refl refl)
  fits_hands false packet flow d x = subst (Hands p) (sym x.2) (judged_hands packet x.0)

  met_hands : (packet : List ℕ) (o : Option Flow) (d : Note × Pump × Shared) → IsMet now sh p.net.received packet o d → Hands p d
  met_hands packet None d x = subst (Hands p) (sym x) (dropped_hands (note.Dropped source.Net p.net.received cause.BadHeader) refl refl)
  met_hands packet (Some flow) d x = fits_hands (nat_lt p.mtu (length packet)) packet flow d x

received_hands : (p : Pump) (sh : Shared) (arrived : List Arrival) (d : Note × Pump × Shared) → p.to_push ≡ None → IsReceived p sh arrived d → Hands p d
received_hands p sh [] d none x = absurd x
received_hands p sh (first ∷ others) d none x = met_hands p sh others none first.packet (flow_of first.packet) d x

-- it receives where it holds none for pushing
empty_by : (o : Option Parcel) (rest : Option PumpTry) → cond (is_some o) (Some PushHeld) rest ≡ Some Receives → o ≡ None
empty_by None rest e = refl
empty_by (Some parcel) rest e = absurd cc

pump_hands : (p : Pump) (box : List Parcel) (sh : Shared) (try : PumpTry) (d : Note × Pump × Shared) → pump_try p box ≡ Some try → PumpNext p sh try d → Hands p d
pump_hands p box sh PushHeld d tries x =
    let was = map_was (λ (parcel : Parcel). parcel_pushed p sh parcel (has_room sh.boxes (inbox_of sh.boxes parcel.to))) p.to_push d x in
    subst (Hands p) was.2 (pushed_hands p sh was.0 (has_room sh.boxes (inbox_of sh.boxes was.0.to)) was.1)
pump_hands p box sh SendHeld d tries x = let was = map_was (net_sent p sh) p.to_send d x in subst (Hands p) was.2 (sent_hands p sh was.0)
pump_hands p box sh SendNext d tries x = next_hands p sh (last_of sh.boxes) (box_at sh.boxes (last_of sh.boxes)) d x
pump_hands p box sh Receives d tries x = received_hands p sh p.net.holds.arrived d (empty_by p.to_push _ tries) x

-- ---- along a run

abbrev HandStep : State → Moment → State → Type 0
HandStep s m t = held_names s.pump.to_push ++ passed_by m ≡ pushed_or_full_by m ++ held_names t.pump.to_push

same_hand : (s t : State) (m : Moment) → passed_by m ≡ [] → pushed_or_full_by m ≡ [] → t.pump.to_push ≡ s.pump.to_push → HandStep s m t
same_hand s t m no_pass no_push same =
    ap (λ (l : List (From × ℕ)). held_names s.pump.to_push ++ l) no_pass
    ∙ (append-nil (held_names s.pump.to_push) ∙ (sym (ap held_names same) ∙ sym (ap (λ (l : List (From × ℕ)). l ++ held_names t.pump.to_push) no_push)))

happen_hand : (s : State) (e : Event) → (happen s e).pump.to_push ≡ s.pump.to_push
happen_hand s (event.Conn actor) = refl
happen_hand s (event.Piece conn bytes) = refl
happen_hand s (event.End conn) = refl
happen_hand s (event.Room conn room) = refl
happen_hand s (event.FailRead conn) = refl
happen_hand s (event.FailWrite conn) = refl
happen_hand s (event.Datagram tunnel bytes) = refl
happen_hand s (event.FailPort tunnel) = refl
happen_hand s event.FailBind = refl
happen_hand s event.FailNet = refl
happen_hand s (event.Packet count bytes) = refl
happen_hand s (event.Step actor) = refl

hand_step : (s t : State) (m : Moment) → Goes s m t → HandStep s m t
hand_step s t (Happened e) x = same_hand s t (Happened e) refl refl (ap (λ (s : State). s.pump.to_push) x.1 ∙ happen_hand s e)
hand_step s t (Noted (WorkerOf k) said) x = same_hand s t (Noted (WorkerOf k) said) refl refl (ap (λ (s : State). s.pump.to_push) x.new_is)
hand_step s t (Noted ThePump said) x =
    pump_hands s.pump (box_at s.shared.boxes (last_of s.shared.boxes)) s.shared x.turn.try (said, x.pump, x.shared) x.turn.tries x.turn.is
    ∙ ap (λ (o : Option Parcel). pushed_or_full_in said ++ held_names o) (sym (ap (λ (s : State). s.pump.to_push) x.new_is))
hand_step s t (Refused (WorkerOf k) reached) x = same_hand s t (Refused (WorkerOf k) reached) refl refl (ap (λ (s : State). s.pump.to_push) x.new_is)
hand_step s t (Refused ThePump reached) x = same_hand s t (Refused ThePump reached) refl refl (ap (λ (s : State). s.pump.to_push) x.2)

abbrev Handed : List Moment → State → Type 0
Handed ms s = flat_map passed_by ms ≡ flat_map pushed_or_full_by ms ++ held_names s.pump.to_push

run_handed : (before ms : List Moment) (s t : State) → Handed before s → Run s ms t → Handed (before ++ ms) t
run_handed before [] s t h x = rw append-nil (subst (Handed before) (sym x) h)
run_handed before (m ∷ ms) s t h x =
    let here : Handed (before ++ m ∷ []) x.0 = behind passed_by before m
    ∙ (stays (flat_map passed_by before) (flat_map pushed_or_full_by before) (held_names s.pump.to_push) (passed_by m) (pushed_or_full_by m) (held_names x.0.pump.to_push) h (hand_step s x.0 m x.1)
    ∙ ap (λ (l : List (From × ℕ)). l ++ held_names x.0.pump.to_push) (sym (behind pushed_or_full_by before m))) in
    subst (λ (l : List Moment). Handed l t) (append_assoc before (m ∷ []) ms) (run_handed (before ++ m ∷ []) ms x.0 t here x.2)

pub handed_at : (plan : Plan) (ms : List Moment) (s : State) → Run (state_of plan) ms s → Handed ms s
handed_at plan ms s run = run_handed [] ms (state_of plan) s refl run
