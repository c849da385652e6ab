-- A worker's turn lets no more of a payload be than there was, and its connections keep their numbers.
use Rattle.std.proofs.Common.{◌≡◌, ◌≤◌, ◌+◌, ℕ, Bool, true, false, cond, List, [], ◌∷◌, length, slice_get, slice_set, Option, Some, None, refl, sym, subst, ap, arith, inl, inr}
use Rattle.std.specs.Prelude.{find, ◌==◌}
use Rattle.std.specs.List.{AllByRecursion}
use Rattle.std.proofs.lemmas.Bool.{eq-eqb}
use Rattle.mq_addr.specs.declared.kind.Kind.{Kind}
use Rattle.mq_addr.specs.declared.kind.Kind.TheVariants as kind
use Rattle.mq_talk.specs.declared.book.Call.TheVariants as call
use Rattle.mq_talk.specs.declared.book.Reply.TheVariants as reply
use Rattle.mq_talk.specs.declared.note.Note.{Note}
use Rattle.mq_talk.specs.declared.place.Parcel.{Parcel}
use Rattle.mq_talk.specs.declared.place.Place.{Place}
use Rattle.mq_talk.specs.declared.place.Place.TheVariants as place
use Rattle.mq_machine.specs.Lawful.{StaysLawful}
use Rattle.mq_machine.specs.Silent.{Reached, Heard, SeatStarves, takes_memory, tunnels_after}
use Rattle.mq_machine.specs.State.{new_conn, Tunnel, Offer, Held, Worker, Shared, tunnel_of, kind_of, held_of}
use Rattle.mq_machine.specs.Steps.{starved}
use Rattle.mq_machine.specs.Turn.{Try, Seat, Offers, Inbox, Of, accepted, replace, has_tunnel, tunnel_in, came_to, popped, source_of, SeatNext}
use Rattle.mq_machine.specs.Want.{Want, Ask, Push, Answer, Replied, want_of}
use Rattle.mq_machine.specs.Words.{onward}
use Rattle.mq_play.proofs.Lists.{each_found, some_same}
use Rattle.mq_runs.specs.Ends.{IsCounted}
use Rattle.mq_runs.proofs.Coming.{passed_down}
use Rattle.mq_runs.proofs.Doing.{pushed}
use Rattle.mq_runs.proofs.Flight.{Key, flows, is_own, in_tunnel, in_tunnels, in_conn, end_of, tunnels_less}
use Rattle.mq_runs.proofs.Keeping.{Sound}
use Rattle.mq_runs.proofs.Kept.{cases_of}
use Rattle.mq_runs.proofs.Moving.{parcel_hit, in_boxes, in_shared, shared_less, in_held, in_new, HasNumber, Moves, handles_moves}
use Rattle.mq_runs.proofs.Ranks.{Among, found_among}
use Rattle.mq_runs.proofs.Sums.{total, total_append, total_set}
use Rattle.mq_runs.proofs.Walks.{try_walk}

-- ---- numbers of connections

abbrev pub is_numbered : ℕ → Held → ℕ
is_numbered m h = cond (h.conn.number == m) 1 0

-- how many connections of this number a worker has, with those that are offered
abbrev pub numbered : ℕ → Worker → ℕ
numbered m w = total (λ (o : Offer). cond (o.number == m) 1 0) w.offered + total (is_numbered m) w.conns

-- ---- one connection changes

abbrev pub of_new : (Held → ℕ) → Option Held → ℕ
of_new f None = 0
of_new f (Some h) = f h

replace_by : (f : Held → ℕ) (n : ℕ) (new : Option Held) (h g : Held) (hs : List Held) (b : Bool) → (g.conn.number == n) ≡ b → cond b (Some g) (find (λ (h : Held). h.conn.number == n) hs) ≡ Some h
    → (find (λ (h : Held). h.conn.number == n) hs ≡ Some h → total f (replace n new hs) + f h ≡ total f hs + of_new f new)
    → total f (replace n new (g ∷ hs)) + f h ≡ total f (g ∷ hs) + of_new f new
replace_by f n None h g hs true is e rest = let same = ap f (some_same e) in rw is (omega (arith, same))
replace_by f n (Some x) h g hs true is e rest = let same = ap f (some_same e) in rw is (omega (arith, same))
replace_by f n None h g hs false is e rest = let one = rest e in rw is (omega (arith, one))
replace_by f n (Some x) h g hs false is e rest = let one = rest e in rw is (omega (arith, one))

pub replace_sum : (f : Held → ℕ) (n : ℕ) (new : Option Held) (h : Held) (hs : List Held) → find (λ (h : Held). h.conn.number == n) hs ≡ Some h → total f (replace n new hs) + f h ≡ total f hs + of_new f new
replace_sum f n new h [] e = absurd cc
replace_sum f n new h (g ∷ hs) e = replace_by f n new h g hs (g.conn.number == n) refl e (λ e. replace_sum f n new h hs e)

-- one of them has its number
one_numbered : (h : Held) (hs : List Held) → Among h hs → 1 ≤ total (is_numbered h.conn.number) hs
one_numbered h [] x = absurd x
one_numbered h (g ∷ hs) (inl same) =
    let is : (g.conn.number == h.conn.number) ≡ true = eq-eqb g.conn.number h.conn.number (ap (λ (h : Held). h.conn.number) same) in
    rw is (omega arith)
one_numbered h (g ∷ hs) (inr more) = let rest = one_numbered h hs more in omega (arith, rest)

-- where no other has its number, it is the one that changes
only_by : (f : Held → ℕ) (h x g : Held) (hs : List Held) (b : Bool) → (g.conn.number == h.conn.number) ≡ b → Among h (g ∷ hs) → cond b 1 0 + total (is_numbered h.conn.number) hs ≤ 1
    → (Among h hs → total f (replace h.conn.number (Some x) hs) + f h ≡ total f hs + f x) → total f (cond b (x ∷ hs) (g ∷ replace h.conn.number (Some x) hs)) + f h ≡ total f (g ∷ hs) + f x
only_by f h x g hs true is (inl same) few rest = let one = ap f same in omega (arith, one)
only_by f h x g hs true is (inr more) few rest = let one = one_numbered h hs more in absurd (omega (arith, one, few))
only_by f h x g hs false is (inl same) few rest =
    let yes : (g.conn.number == h.conn.number) ≡ true = eq-eqb g.conn.number h.conn.number (ap (λ (h : Held). h.conn.number) same) in
    absurd cc
only_by f h x g hs false is (inr more) few rest = let one = rest more in omega (arith, one)

pub replace_only : (f : Held → ℕ) (h x : Held) (hs : List Held) → Among h hs → total (is_numbered h.conn.number) hs ≤ 1 → total f (replace h.conn.number (Some x) hs) + f h ≡ total f hs + f x
replace_only f h x [] among few = absurd among
replace_only f h x (g ∷ hs) among few =
    only_by f h x g hs (g.conn.number == h.conn.number) refl among few (λ more. replace_only f h x hs more (omega (arith, few)))

-- ---- a worker

abbrev pub in_worker : Key → Worker → ℕ
in_worker k w = total (in_held k) w.conns

pub record WorkerMoves (k : Key) (old : Worker) (sh : Shared) (gone : ℕ) (new : Worker) (after : Shared) : Type 0 where
  pub down : gone + in_worker k new + in_shared k after ≤ in_worker k old + in_shared k sh
  pub numbers : (m : ℕ) → numbered m new ≤ numbered m old

-- a connection that keeps its number, or ends
new_numbered : (m n : ℕ) (new : Option Held) → HasNumber n new → of_new (is_numbered m) new ≤ cond (n == m) 1 0
new_numbered m n None h = omega arith
new_numbered m n (Some g) h = let same = ap {B = ℕ} (λ i. cond (i == m) 1 0) h in omega (arith, same)

new_same : (k : Key) (new : Option Held) → of_new (in_held k) new ≡ in_new k new
new_same k None = refl
new_same k (Some h) = refl

held_moves : (k : Key) (old : Worker) (sh : Shared) (n : ℕ) (held : Held) (became : Option Held) (gone : ℕ) (after : Shared) (new : Worker) → held_of old n ≡ Some held
    → gone + in_new k became + in_shared k after ≤ in_held k held + in_shared k sh → HasNumber held.conn.number became → new.conns ≡ replace n became old.conns → new.offered ≡ old.offered
    → WorkerMoves k old sh gone new after
held_moves k old sh n held became gone after new has down number conns offered =
    let sum = replace_sum (in_held k) n became held old.conns has in
    let same = ap (λ (hs : List Held). total (in_held k) hs) conns in
    let is = new_same k became in
    record {
      down = omega (arith, sum, same, is, down);
      numbers = λ m.
          let these = replace_sum (is_numbered m) n became held old.conns has in
          let now = ap (λ (hs : List Held). total (is_numbered m) hs) conns in
          let others = ap (λ (os : List Offer). total (λ (o : Offer). cond (o.number == m) 1 0) os) offered in
          let less = new_numbered m held.conn.number became number in
          omega (arith, these, now, others, less);
    }

-- ---- its inbox

abbrev pub FoundAmong : List Held → Option (Held × Tunnel) → Type 0
FoundAmong hs None = Unit {0}
FoundAmong hs (Some found) = Among found.0 hs

among_for_ip : (hs : List Held) (h : Held) (t : Tunnel) (k : Kind) → Among h hs → (o : Option (Held × Tunnel)) → ((k ≡ kind.Udp) → o ≡ None) → ((k ≡ kind.Ip) → o ≡ Some (h, t)) → FoundAmong hs o
among_for_ip hs h t kind.Udp p o none some = subst (FoundAmong hs) (sym (none refl)) tt
among_for_ip hs h t kind.Ip p o none some = subst (FoundAmong hs) (sym (some refl)) p

pub among_in : (w : Worker) (to : Place) → FoundAmong w.conns (tunnel_in w to)
among_in w place.Net = tt
among_in w (place.Tunnel tunnel actor) =
    elim (cases_of (find (has_tunnel tunnel) w.conns)) [
      | inl none ↦ rw none tt
      | inr (held, some) ↦ (
          let p = found_among (has_tunnel tunnel) w.conns held some in
          elim (cases_of (tunnel_of held.conn tunnel)) [
            | inl none ↦ rw (some, none) tt
            | inr (t, is) ↦ among_for_ip w.conns held t (kind_of t.goal) p (tunnel_in w (place.Tunnel tunnel actor)) (λ e. rw (some, is, e) refl) (λ e. rw (some, is, e) refl)
          ])
    ]

-- what comes out of an inbox was in it
pub box_sum : (k : Key) (boxes : List (List Parcel)) (i : ℕ) (parcel : Parcel) (rest : List Parcel) → slice_get boxes i ≡ Some (parcel ∷ rest) → in_boxes k (slice_set boxes i rest) + parcel_hit k parcel ≡ in_boxes k boxes
box_sum k boxes i parcel rest e = let sum = total_set (λ (box : List Parcel). total (parcel_hit k) box) boxes i (parcel ∷ rest) rest e in omega (arith, sum)

abbrev PopMoves : Key → Worker → Parcel → Note × Worker → Type 0
PopMoves k w parcel d = (end_of k d.0 + in_worker k d.1 ≤ in_worker k w + parcel_hit k parcel) × ((m : ℕ) → numbered m d.1 ≤ numbered m w)

popped_moves : (k : Key) (w : Worker) (parcel : Parcel) → ((m : ℕ) → numbered m w ≤ 1) → PopMoves k w parcel (popped w parcel)
popped_moves k w parcel few =
    elim (cases_of (tunnel_in w parcel.to)) [
      | inl none ↦ rw none (omega arith, λ m. omega arith)
      | inr (found, some) ↦ (
          let among : Among found.0 w.conns = subst (FoundAmong w.conns) some (among_in w parcel.to) in
          let came = passed_down k found.0.conn found.1 (source_of parcel.from) parcel.n (onward parcel.packet) in
          let down = came.down in
          let x : Held = (came_to found.0 found.1 parcel).1 in
          let one = few found.0.conn.number in
          let only : total (is_numbered found.0.conn.number) w.conns ≤ 1 = omega (arith, one) in
          let sum = replace_only (in_held k) found.0 x w.conns among only in
          rw some (
            omega (arith, down, sum),
            λ m.
                let these = replace_only (is_numbered m) found.0 x w.conns among only in
                let same = ap {B = ℕ} (λ i. cond (i == m) 1 0) came.number in
                omega (arith, these, same),
          ))
    ]

abbrev AcceptMoves : Key → Worker → Option (Note × Worker) → Type 0
AcceptMoves k w None = Unit {0}
AcceptMoves k w (Some d) = (end_of k d.0 + in_worker k d.1 ≤ in_worker k w) × ((m : ℕ) → numbered m d.1 ≤ numbered m w)

accepted_moves : (k : Key) (w : Worker) (offered : List Offer) → w.offered ≡ offered → AcceptMoves k w (accepted w offered)
accepted_moves k w [] is = tt
accepted_moves k w (o ∷ offered) is =
    let now : Held = record { conn = new_conn o.number w.id; link = o.link; ports = [] } in
    let sum = total_append (in_held k) w.conns (now ∷ []) in (
      omega (arith, sum),
      λ m.
          let these = total_append (is_numbered m) w.conns (now ∷ []) in
          let others = ap (λ (os : List Offer). total (λ (o : Offer). cond (o.number == m) 1 0) os) is in
          omega (arith, these, others),
    )

-- ---- its turn

module _ (stays : StaysLawful) (k : Key) (counted : IsCounted k.from k.number) where
  pub seat_moves : (old : Worker) (sh : Shared) (seat : Seat) (answer : Answer) (said : Note) (new : Worker) (after : Shared) → ((m : ℕ) → numbered m old ≤ 1)
      → AllByRecursion (λ (h : Held). Sound stays k (length sh.book) h.conn) old.conns → SeatNext old sh seat answer said new after → WorkerMoves k old sh (end_of k said) new after
  seat_moves old sh Offers answer said new after few sound x =
      let did = subst (AcceptMoves k old) x.1 (accepted_moves k old old.offered refl) in
      let down = did.0 in
      let same = ap (in_shared k) x.2 in
      record { down = omega (arith, down, same); numbers = did.1 }
  seat_moves old sh Inbox answer said new after few sound x =
      let did = subst (PopMoves k old x.1.parcel) x.1.is (popped_moves k old x.1.parcel few) in
      let down = did.0 in
      let box = box_sum k sh.boxes old.id x.1.parcel x.1.rest x.1.box in
      let same = ap (in_shared k) x.1.after_is in
      record { down = omega (arith, down, box, same); numbers = did.1 }
  seat_moves old sh (Of n) answer said new after few sound x =
      let held = each_found (λ (h : Held). Sound stays k (length sh.book) h.conn) (λ (g : Held). g.conn.number == n) old.conns x.held sound x.has in
      let moves = try_walk old.setup x.held sh (λ said new after. Moves k x.held sh said new after)
      (handles_moves k old.setup x.held sh counted held.lawful held.once (λ d bytes took. stays.reads old.setup x.held.conn d bytes held.lawful took)) x.try answer said x.became after x.tries x.next in
      held_moves k old sh n x.held x.became (end_of k said) after new x.has moves.down moves.number (ap (λ (w : Worker). w.conns) x.new_is) (ap (λ (w : Worker). w.offered) x.new_is)

-- ---- where it was refused memory

pushed_none : (k : Key) (want : Want) (answer : Answer) → takes_memory want ≡ true → pushed k want answer ≡ 0
pushed_none k (Push parcel) answer h = absurd cc
pushed_none k want answer h = refl

no_flow : (b : Bool) → ◌≡◌ {A = ℕ} (cond b 0 0) 0
no_flow true = refl
no_flow false = refl

-- nothing flows in its tunnels then
after_less : (k : Key) (f : ℕ → ℕ) (want : Want) (answer : Answer) (ts : List Tunnel) → in_tunnels k (λ id. 0) (tunnels_after want answer ts) ≤ in_tunnels k f ts
after_less k f (Ask (call.Open conn on actor goal)) (Replied (reply.Opened tunnel routes)) ts =
    let now : Tunnel = record { id = tunnel; stream = on; goal = goal; waiting = [] } in
    let sum = total_append (in_tunnel k (λ id. 0)) ts (now ∷ []) in
    let none = no_flow (is_own k tunnel) in
    let less = tunnels_less k (λ id. 0) f ts (λ id. omega arith) in
    omega (arith, sum, none, less)
after_less k f want answer ts = tunnels_less k (λ id. 0) f ts (λ id. omega arith)

heard_less : (k : Key) (asked : Bool) (old : Held) (sh : Shared) (try : Try) (answer : Answer) (tunnels : List Tunnel) (after : Shared) → Heard asked old sh try answer tunnels after
    → in_tunnels k (λ id. 0) tunnels + in_shared k after ≤ in_conn k old.conn + in_shared k sh
heard_less k false old sh try answer tunnels after x =
    let same = ap (in_shared k) x.2 in
    let these = ap (λ (ts : List Tunnel). in_tunnels k (λ id. 0) ts) x.1 in
    let less = tunnels_less k (λ id. 0) (flows k old.conn) old.conn.tunnels (λ id. omega arith) in
    omega (arith, same, these, less)
heard_less k true old sh try answer tunnels after x =
    let shared = shared_less k old.conn.actor sh (want_of old.conn) answer after x.answers in
    let none = pushed_none k (want_of old.conn) answer x.takes in
    let these = ap (λ (ts : List Tunnel). in_tunnels k (λ id. 0) ts) x.tunnels_are in
    let less = after_less k (flows k old.conn) (want_of old.conn) answer old.conn.tunnels in
    omega (arith, shared, none, these, less)

pub starves_moves : (k : Key) (old : Worker) (sh : Shared) (seat : Seat) (reached : Reached) (answer : Answer) (new : Worker) (after : Shared) → SeatStarves old sh seat reached answer new after → WorkerMoves k old sh 0 new after
starves_moves k old sh Offers reached answer new after x =
    let same = ap (in_shared k) x.3 in
    let worker = ap (in_worker k) x.2 in
    record { down = omega (arith, same, worker); numbers = λ m. let these = ap (numbered m) x.2 in omega (arith, these) }
starves_moves k old sh Inbox reached answer new after x = absurd x
starves_moves k old sh (Of n) reached answer new after x =
    let less = heard_less k reached.asked x.held sh x.try answer x.tunnels after x.heard in
    let now : Held = record x.held { link = record x.held.link { pieces = x.pieces }; conn = record (starved x.held.conn) { tunnels = x.tunnels } } in
    let flat : in_conn k now.conn ≤ in_tunnels k (λ id. 0) x.tunnels = tunnels_less k (flows k now.conn) (λ id. 0) x.tunnels (λ id. omega arith) in
    held_moves k old sh n x.held (Some now) 0 after new x.has (omega (arith, less, flat)) refl (ap (λ (w : Worker). w.conns) x.new_is) (ap (λ (w : Worker). w.offered) x.new_is)
