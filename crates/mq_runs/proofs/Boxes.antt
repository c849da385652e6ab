-- What becomes of an inbox in a step: a parcel comes to its end, or leaves its front.
use Rattle.std.proofs.Common.{◌≡◌, ◌⊎◌, ℕ, zero, suc, Bool, true, false, cond, List, [], ◌∷◌, ◌++◌, nat_le, slice_get, slice_set, Option, Some, None, refl, sym, ap, ◌∙◌, inl, inr}
use Rattle.std.specs.Option.{unwrap_or}
use Rattle.mq_addr.specs.declared.entry.Asked.{Asked}
use Rattle.mq_talk.specs.declared.book.Call.TheVariants as call
use Rattle.mq_talk.specs.declared.note.End.{End}
use Rattle.mq_talk.specs.declared.place.Origin.TheVariants as origin
use Rattle.mq_talk.specs.declared.place.Parcel.{Parcel}
use Rattle.mq_talk.specs.declared.place.Place.{Place}
use Rattle.mq_talk.specs.Mails.{box_at, with_parcel}
use Rattle.mq_machine.specs.declared.act.Act.TheVariants as act
use Rattle.mq_machine.specs.declared.act.StreamAct.{StreamAct}
use Rattle.mq_machine.specs.declared.act.StreamAct.TheVariants as stream
use Rattle.mq_machine.specs.declared.act.Due.{Due}
use Rattle.mq_machine.specs.declared.act.Due.TheVariants as due
use Rattle.mq_machine.specs.declared.event.Event.{Event}
use Rattle.mq_machine.specs.declared.event.Event.TheVariants as event
use Rattle.mq_play.specs.Events.{happen}
use Rattle.mq_machine.specs.Settle.{gives_up}
use Rattle.mq_machine.specs.Shared.{Answers, pushing, inbox_of}
use Rattle.mq_machine.specs.Silent.{Reached, Heard, SeatStarves, takes_memory}
use Rattle.mq_machine.specs.State.{Conn, Tunnel, Held, Worker, Shared, State, owed, tunnel_on, values}
use Rattle.mq_machine.specs.Turn.{Try, Seat, Offers, Inbox, Of}
use Rattle.mq_machine.specs.Want.{Want, Nothing, Say, Bind, Ask, Judge, Push, Send, Over, Answer, Said, Bound, Replied, Judged, Pushed, Put, want_of, want_by, due_want, tunnel_want, stream_want, ending_want, over_want, most_values}
use Rattle.mq_runs.proofs.Facts.{InFront}

-- ---- a push is in front

pub record PushFront (c : Conn) (parcel : Parcel) : Type 0 where
  pub n : ℕ
  pub to : Place
  pub packet : List ℕ
  pub front : InFront c (stream.Push n to packet)
  pub is : parcel ≡ record { from = origin.Tunnel front.t.id; n = n; to = to; packet = packet }

module _ (c : Conn) (parcel : Parcel) where
  assign_no : (b : Bool) (u : ℕ) (asked : List Asked) → cond b (Ask (call.Close u)) (Ask (call.Assign u asked)) ≡ Push parcel → ⊥
  assign_no true u asked e = absurd cc
  assign_no false u asked e = absurd cc

  stream_push : (on : ℕ) (a : StreamAct) (others : List Due) (t : Tunnel) → c.due ≡ due.Do (act.OfStream on a) ∷ others → c.ending ≡ None → tunnel_on c on ≡ Some t → stream_want t a ≡ Push parcel → PushFront c parcel
  stream_push on (stream.Payload n payload) others t is goes_on serves e = absurd cc
  stream_push on (stream.Packet n packet flow) others t is goes_on serves e = absurd cc
  stream_push on (stream.Push n to packet) others t is goes_on serves e =
      record { n = n; to = to; packet = packet; front = record { on = on; t = t; others = others; serves = serves; due_is = is; goes_on = goes_on }; is = parcel_of e }
    where
      parcel_of : Push (record { from = origin.Tunnel t.id; n = n; to = to; packet = packet }) ≡ Push parcel → parcel ≡ record { from = origin.Tunnel t.id; n = n; to = to; packet = packet }
      parcel_of e = cc
  stream_push on (stream.Drop n cause) others t is goes_on serves e = absurd cc
  stream_push on (stream.Assign asked) others t is goes_on serves e = absurd (assign_no (nat_le most_values (values t)) t.id asked e)
  stream_push on (stream.Advertise ranges) others t is goes_on serves e = absurd cc
  stream_push on (stream.Close reason) others t is goes_on serves e = absurd cc

  tunnel_push : (on : ℕ) (a : StreamAct) (others : List Due) (o : Option Tunnel) → c.due ≡ due.Do (act.OfStream on a) ∷ others → c.ending ≡ None → tunnel_on c on ≡ o → tunnel_want o a ≡ Push parcel → PushFront c parcel
  tunnel_push on a others None is goes_on serves e = absurd cc
  tunnel_push on a others (Some t) is goes_on serves e = stream_push on a others t is goes_on serves e

  due_push : (ds : List Due) → c.due ≡ ds → c.ending ≡ None → due_want c ds ≡ Push parcel → PushFront c parcel
  due_push [] is goes_on e = absurd cc
  due_push (due.Do (act.Bind id goal) ∷ rest) is goes_on e = absurd cc
  due_push (due.Do (act.Open id goal) ∷ rest) is goes_on e = absurd cc
  due_push (due.Do (act.Refuse id status rule) ∷ rest) is goes_on e = absurd cc
  due_push (due.Do (act.Reset id code) ∷ rest) is goes_on e = absurd cc
  due_push (due.Do (act.OfStream on a) ∷ rest) is goes_on e = tunnel_push on a rest (tunnel_on c on) is goes_on refl e
  due_push (due.Spend id size ∷ rest) is goes_on e = absurd cc
  due_push (due.Fault code ∷ rest) is goes_on e = absurd cc

  over_no : (b : Bool) (why : End) → cond b (Over why) Nothing ≡ Push parcel → ⊥
  over_no true why e = absurd cc
  over_no false why e = absurd cc

  over_want_no : (why : End) (bytes : List ℕ) → over_want why bytes ≡ Push parcel → ⊥
  over_want_no why [] e = absurd cc
  over_want_no why (b ∷ bytes) e = over_no (gives_up why) why e

  ending_no : (why : End) (ts : List Tunnel) → ending_want c why ts ≡ Push parcel → ⊥
  ending_no why [] e = over_want_no why (owed c) e
  ending_no why (t ∷ ts) e = absurd cc

  by_push : (o : Option End) → c.ending ≡ o → want_by c o ≡ Push parcel → PushFront c parcel
  by_push None is e = due_push c.due refl is e
  by_push (Some why) is e = absurd (ending_no why c.tunnels e)

  pub want_push : want_of c ≡ Push parcel → PushFront c parcel
  want_push e = by_push c.ending refl e

-- ---- what an answer does to the inboxes

pub record PushesIn (sh : Shared) (parcel : Parcel) (after : Shared) : Type 0 where
  pub is : after.boxes ≡ with_parcel sh.boxes (inbox_of sh.boxes parcel.to) parcel

abbrev AnswerBoxes : Shared → Want → Shared → Type 0
AnswerBoxes sh want after = (after.boxes ≡ sh.boxes) ⊎ ((parcel : Parcel) × (want ≡ Push parcel) × PushesIn sh parcel after)

push_boxes : (b : Bool) (sh : Shared) (parcel : Parcel) (after : Shared) → after ≡ pushing b sh parcel → AnswerBoxes sh (Push parcel) after
push_boxes true sh parcel after e = inr (parcel, refl, record { is = ap (λ (s : Shared). s.boxes) e })
push_boxes false sh parcel after e = inl (ap (λ (s : Shared). s.boxes) e)

answer_boxes : (actor : ℕ) (sh : Shared) (want : Want) (answer : Answer) (after : Shared) → Answers actor sh want answer after → AnswerBoxes sh want after
answer_boxes actor sh Say Said after x = inl (ap (λ (s : Shared). s.boxes) x)
answer_boxes actor sh (Bind stream goal) (Bound b) after x = inl (ap (λ (s : Shared). s.boxes) x)
answer_boxes actor sh (Ask c) (Replied r) after x = inl (ap (λ (s : Shared). s.boxes) x.after_is)
answer_boxes actor sh (Judge tunnel n flow) (Judged v at) after x = inl (ap (λ (s : Shared). s.boxes) x.2)
answer_boxes actor sh (Push parcel) (Pushed b) after x = push_boxes b sh parcel after x.1
answer_boxes actor sh (Send tunnel n payload) (Put answer limit) after x = inl (ap (λ (s : Shared). s.boxes) x)
answer_boxes actor sh (Over reason) Said after x = inl (ap (λ (s : Shared). s.boxes) x)
answer_boxes actor sh want answer after x = absurd x

-- in a connection's step
abbrev pub HeldBoxes : Held → Shared → Shared → Type 0
HeldBoxes old sh after = (after.boxes ≡ sh.boxes) ⊎ ((parcel : Parcel) × PushFront old.conn parcel × PushesIn sh parcel after)

-- where it was refused memory
no_push_memory : (want : Want) (parcel : Parcel) → takes_memory want ≡ true → want ≡ Push parcel → ⊥
no_push_memory (Push p) parcel h e = absurd cc
no_push_memory Nothing parcel h e = absurd cc
no_push_memory Say parcel h e = absurd cc
no_push_memory (Bind stream goal) parcel h e = absurd cc
no_push_memory (Ask c) parcel h e = absurd cc
no_push_memory (Judge tunnel n flow) parcel h e = absurd cc
no_push_memory (Send tunnel n payload) parcel h e = absurd cc
no_push_memory (Over why) parcel h e = absurd cc

memory_boxes : (sh : Shared) (want : Want) (after : Shared) → takes_memory want ≡ true → AnswerBoxes sh want after → after.boxes ≡ sh.boxes
memory_boxes sh want after takes (inl same) = same
memory_boxes sh want after takes (inr (parcel, is, pushes)) = absurd (no_push_memory want parcel takes is)

heard_boxes : (asked : Bool) (old : Held) (sh : Shared) (try : Try) (answer : Answer) (tunnels : List Tunnel) (after : Shared) → Heard asked old sh try answer tunnels after → after.boxes ≡ sh.boxes
heard_boxes false old sh try answer tunnels after x = ap (λ (s : Shared). s.boxes) x.2
heard_boxes true old sh try answer tunnels after x = memory_boxes sh (want_of old.conn) after x.takes (answer_boxes old.conn.actor sh (want_of old.conn) answer after x.answers)

pub starves_boxes : (old : Worker) (sh : Shared) (seat : Seat) (reached : Reached) (answer : Answer) (new : Worker) (after : Shared) → SeatStarves old sh seat reached answer new after → after.boxes ≡ sh.boxes
starves_boxes old sh Offers reached answer new after x = ap (λ (s : Shared). s.boxes) x.3
starves_boxes old sh Inbox reached answer new after x = absurd x
starves_boxes old sh (Of n) reached answer new after x = heard_boxes reached.asked x.held sh x.try answer x.tunnels after x.heard

-- ---- one inbox

-- behind a write to one of them
pub set_box : (boxes : List (List Parcel)) (i j : ℕ) (box : List Parcel) → (box_at (slice_set boxes i box) j ≡ box_at boxes j) ⊎ ((i ≡ j) × (box_at (slice_set boxes i box) j ≡ box))
set_box [] zero j box = inl refl
set_box [] (suc i) j box = inl refl
set_box (b ∷ boxes) zero zero box = inr (refl, refl)
set_box (b ∷ boxes) zero (suc j) box = inl refl
set_box (b ∷ boxes) (suc i) zero box = inl refl
set_box (b ∷ boxes) (suc i) (suc j) box = elim (set_box boxes i j box) [ inl same ↦ inl same | inr (at, is) ↦ inr (ap suc at, is) ]

-- it is the same, or has one parcel more, or lost its front
abbrev pub BoxPushed : List (List Parcel) → List (List Parcel) → ℕ → Parcel → Type 0
BoxPushed old new j parcel = (box_at new j ≡ box_at old j) ⊎ (box_at new j ≡ box_at old j ++ parcel ∷ [])

pub pushed_box : (old : List (List Parcel)) (i j : ℕ) (parcel : Parcel) → BoxPushed old (with_parcel old i parcel) j parcel
pushed_box old i j parcel = elim (set_box old i j (box_at old i ++ parcel ∷ [])) [
  | inl same ↦ inl same
  | inr (at, is) ↦ inr (is ∙ ap (λ i. box_at old i ++ parcel ∷ []) at)
]

abbrev pub BoxPopped : List (List Parcel) → List (List Parcel) → ℕ → ℕ → Parcel → List Parcel → Type 0
BoxPopped old new i j parcel rest = (box_at new j ≡ box_at old j) ⊎ ((i ≡ j) × (box_at old j ≡ parcel ∷ rest) × (box_at new j ≡ rest))

pub popped_box : (old : List (List Parcel)) (i j : ℕ) (parcel : Parcel) (rest : List Parcel) → slice_get old i ≡ Some (parcel ∷ rest) → BoxPopped old (slice_set old i rest) i j parcel rest
popped_box old i j parcel rest e = elim (set_box old i j rest) [
  | inl same ↦ inl same
  | inr (at, is) ↦ inr (at, ap (λ k. box_at old k) (sym at) ∙ ap (λ (o : Option (List Parcel)). unwrap_or o []) e, is)
]

-- ---- what the pump does to them, and to the parcel that it holds for pushing

-- the pump holds packets of the network for pushing
abbrev pub HoldsNet : Option Parcel → Type 0
HoldsNet None = Unit {0}
HoldsNet (Some parcel) = parcel.from ≡ origin.Net

pub box_was : (o : Option (List Parcel)) (parcel : Parcel) (rest : List Parcel) → unwrap_or o [] ≡ parcel ∷ rest → o ≡ Some (parcel ∷ rest)
box_was None parcel rest e = absurd cc
box_was (Some box) parcel rest e = ap Some e

-- ---- what happens leaves them

pub happen_boxes : (s : State) (e : Event) → (happen s e).shared.boxes ≡ s.shared.boxes
happen_boxes s (event.Conn x) = refl
happen_boxes s (event.Piece conn bytes) = refl
happen_boxes s (event.End conn) = refl
happen_boxes s (event.Room conn room) = refl
happen_boxes s (event.FailRead conn) = refl
happen_boxes s (event.FailWrite conn) = refl
happen_boxes s (event.Datagram tunnel bytes) = refl
happen_boxes s (event.FailPort tunnel) = refl
happen_boxes s event.FailBind = refl
happen_boxes s event.FailNet = refl
happen_boxes s (event.Packet count bytes) = refl
happen_boxes s (event.Step x) = refl
