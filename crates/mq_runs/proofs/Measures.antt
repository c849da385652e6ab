-- Sums over the tunnels of a state that a step doesn't raise, but where a packet comes to wait in one.
use Rattle.std.proofs.Common.{◌≡◌, ◌≤◌, ◌<◌, ◌+◌, ◌⊎◌, ℕ, zero, suc, Bool, true, false, cond, not, List, [], ◌∷◌, ◌++◌, map, length, slice_get, slice_set, Option, Some, None, option_map, refl, subst, ap, ◌∙◌, arith, inl, inr}
use Rattle.std.specs.Prelude.{◌==◌}
use Rattle.std.proofs.lemmas.Bool.{eqb-true}
use Rattle.mq_addr.specs.declared.kind.Kind.{Kind}
use Rattle.mq_addr.specs.declared.kind.Kind.TheVariants as kind
use Rattle.mq_addr.specs.declared.range.Range.{Range}
use Rattle.mq_talk.specs.declared.book.Call.TheVariants as call
use Rattle.mq_talk.specs.declared.book.Reply.TheVariants as reply
use Rattle.mq_talk.specs.declared.note.From.{From}
use Rattle.mq_talk.specs.declared.note.From.TheVariants as source
use Rattle.mq_talk.specs.declared.note.Note.{Note}
use Rattle.mq_talk.specs.declared.note.Note.TheVariants as note
use Rattle.mq_talk.specs.declared.place.Parcel.{Parcel}
use Rattle.mq_machine.specs.declared.event.Event.{Event}
use Rattle.mq_machine.specs.declared.event.Event.TheVariants as event
use Rattle.mq_machine.specs.declared.setup.Setup.{Setup}
use Rattle.mq_machine.specs.Done.{done, value, waits, first_waiting}
use Rattle.mq_machine.specs.Lawful.{Alone, has_on}
use Rattle.mq_machine.specs.Silent.{Reached, Heard, SeatStarves, tunnels_after}
use Rattle.mq_machine.specs.State.{kind_of, Conn, new_conn, Tunnel, Waiting, Packet, Link, Port, Offer, Held, Worker, Shared, State, tunnel_of, held_of}
use Rattle.mq_machine.specs.Steps.{failed, port_failed, queued, settled_note, passed_on, set_waiting, starved}
use Rattle.mq_machine.specs.Turn.{over_or, ActNext, write_count, Seat, Offers, Inbox, Of, accepted, replace, came_to, tunnel_in, popped, source_of, SeatNext, Try}
use Rattle.mq_machine.specs.Want.{Want, Ask, Over, Answer, Replied, want_of}
use Rattle.mq_machine.specs.Words.{onward, routes_value}
use Rattle.mq_machine.proofs.Lawful.Lists.{In, in_has, itself}
use Rattle.mq_play.specs.Events.{at_held, at_worker, with_ports, with_held_ports, offered_to, happen}
use Rattle.mq_play.proofs.Lists.{if_both, some_same}
use Rattle.mq_runs.proofs.Books.{IsGivenAt, grows_long, answer_grows}
use Rattle.mq_runs.proofs.Kept.{cases_of}
use Rattle.mq_runs.proofs.Ranks.{Among, found_among}
use Rattle.mq_runs.proofs.Shapes.{Answered, done_tunnels, Framed, framed_tunnels, Comes, queued_tunnels, wrote_tunnels, finished_tunnels, took_tunnels}
use Rattle.mq_runs.proofs.Sums.{total, total_append, total_filter, total_map, total_set}
use Rattle.mq_runs.proofs.Walks.{HandlesHeld, try_walk, map_was}
use Rattle.mq_runs.proofs.Workers.{numbered, is_numbered, of_new, replace_sum, replace_only, FoundAmong, among_in}

-- no packet waits
abbrev pub NoPackets : List Waiting → Type 0
NoPackets ws = (ws ≡ []) ⊎ ((kind : ℕ) × (bytes : List ℕ) × (ws ≡ value kind bytes ∷ []))

-- What is summed of each tunnel, and of how many entries the book has. Only a note that a packet waits may raise it.
pub record Measure : Type 0 where
  pub of : Tunnel → ℕ
  pub book : ℕ → ℕ
  pub queue : Note → ℕ
  pub less : (n m : ℕ) → n ≤ m → book m ≤ book n
  pub opens : (n m : ℕ) (t : Tunnel) → n < m → t.id ≡ n → NoPackets t.waiting → of t + book m ≤ book n
  pub value : (t : Tunnel) (kind : ℕ) (bytes : List ℕ) → of (record t { waiting = t.waiting ++ value kind bytes ∷ [] }) ≤ of t
  pub front : (t : Tunnel) (w : Waiting) (ws : List Waiting) → t.waiting ≡ w ∷ ws → of (record t { waiting = ws }) ≤ of t
  pub part : (t : Tunnel) (w : Waiting) (ws : List Waiting) (count : ℕ) → t.waiting ≡ w ∷ ws → of (record t { waiting = record w { framed = count } ∷ ws }) ≤ of t

-- a packet that waits in one of these tunnels raises it by what its note says
abbrev pub Takes : Measure → List Tunnel → Type 0
Takes m ts = (t : Tunnel) → Among t ts → (from : From) (n : ℕ) (packet capsule : List ℕ)
    → m.of (record t { waiting = t.waiting ++ record { what = Packet from n packet; capsule = capsule; framed = 0 } ∷ [] }) ≤ m.of t + m.queue (note.Queued from n t.id)

-- ---- one tunnel changes

-- where each has its stream for itself, the one that is meant changes
set_by : (g : Tunnel → ℕ) (b : Bool) (t u : Tunnel) (ws : List Waiting) (ts : List Tunnel) → (u.stream == t.stream) ≡ b → Alone (u ∷ ts) → In t (u ∷ ts)
    → (In t ts → total g (set_waiting t.stream ws ts) + g t ≡ total g ts + g (record t { waiting = ws }))
    → total g (cond b (record u { waiting = ws } ∷ ts) (u ∷ set_waiting t.stream ws ts)) + g t ≡ total g (u ∷ ts) + g (record t { waiting = ws })
set_by g true t u ws ts is alone (inl same) rest =
    let one = ap g same in
    let two = ap (λ (t : Tunnel). g (record t { waiting = ws })) same in
    omega (arith, one, two)
set_by g true t u ws ts is alone (inr more) rest =
    let there : has_on ts t.stream ≡ true = in_has ts t more in
    let here : has_on ts u.stream ≡ false = alone.0 in
    let same : u.stream ≡ t.stream = eqb-true u.stream t.stream is in
    let both : has_on ts u.stream ≡ true = ap (has_on ts) same ∙ there in
    absurd cc
set_by g false t u ws ts is alone (inl same) rest =
    let one : (u.stream == t.stream) ≡ true = ap (λ (x : Tunnel). x.stream == t.stream) same ∙ itself t.stream in
    absurd cc
set_by g false t u ws ts is alone (inr more) rest = let one = rest more in omega (arith, one)

pub set_sum : (g : Tunnel → ℕ) (t : Tunnel) (ws : List Waiting) (ts : List Tunnel) → Alone ts → In t ts → total g (set_waiting t.stream ws ts) + g t ≡ total g ts + g (record t { waiting = ws })
set_sum g t ws [] alone h = absurd h
set_sum g t ws (u ∷ ts) alone h = set_by g (u.stream == t.stream) t u ws ts refl alone h (λ more. set_sum g t ws ts alone.1 more)

waits_by : (g : Tunnel → ℕ) (b : Bool) (x : ℕ) (t u : Tunnel) (ts us : List Tunnel) → (b ≡ true → g u ≤ g t + x) → total g us ≤ total g ts + x → total g (cond b (u ∷ ts) (t ∷ us)) ≤ total g (t ∷ ts) + x
waits_by g true x t u ts us h l = let one = h refl in omega (arith, one)
waits_by g false x t u ts us h l = omega (arith, l)

-- ---- what becomes of a connection

module _ (m : Measure) where
  abbrev pub sum_of : List Tunnel → ℕ
  sum_of ts = total m.of ts

  valued_sum : (id kind : ℕ) (bytes : List ℕ) (ts : List Tunnel) → sum_of (waits id (value kind bytes) ts) ≤ sum_of ts + 0
  valued_sum id kind bytes [] = omega arith
  valued_sum id kind bytes (t ∷ ts) =
      waits_by m.of (t.id == id) 0 t (record t { waiting = t.waiting ++ value kind bytes ∷ [] }) ts (waits id (value kind bytes) ts) (λ e. let one = m.value t kind bytes in omega (arith, one)) (valued_sum id kind bytes ts)

  queued_sum : (id : ℕ) (from : From) (n : ℕ) (packet capsule : List ℕ) (ts : List Tunnel) → Takes m ts
      → sum_of (waits id (record { what = Packet from n packet; capsule = capsule; framed = 0 }) ts) ≤ sum_of ts + m.queue (note.Queued from n id)
  queued_sum id from n packet capsule [] takes = omega arith
  queued_sum id from n packet capsule (t ∷ ts) takes =
      let w : Waiting = record { what = Packet from n packet; capsule = capsule; framed = 0 } in
      waits_by m.of (t.id == id) (m.queue (note.Queued from n id)) t (record t { waiting = t.waiting ++ w ∷ [] }) ts (waits id w ts)
      (λ e. let one = takes t (inl refl) from n packet capsule in let same = ap (λ i. m.queue (note.Queued from n i)) (eqb-true t.id id e) in omega (arith, one, same))
      (queued_sum id from n packet capsule ts (λ u among. takes u (inr among)))

  no_first : (k : Kind) (routes : List Range) → NoPackets (first_waiting k routes)
  no_first kind.Udp routes = inl refl
  no_first kind.Ip routes = inr (3, routes_value routes, refl)

  opened_sum : (n l id : ℕ) (answer : Answer) (routes : List Range) (t : Tunnel) → answer ≡ Replied (reply.Opened id routes) → t.id ≡ id → NoPackets t.waiting → IsGivenAt n l answer → m.of t + m.book l ≤ m.book n
  opened_sum n l id answer routes t is same none g =
      let given : IsGivenAt n l (Replied (reply.Opened id routes)) = subst (IsGivenAt n l) is g in
      m.opens n l t given.1 (same ∙ given.0) none

  answered_sum : (ts us : List Tunnel) (answer : Answer) (n l : ℕ) → Answered ts answer us → n ≤ l → IsGivenAt n l answer → sum_of us + m.book l ≤ sum_of ts + m.book n
  answered_sum ts us answer n l (inl same) long g = let one = ap sum_of same in let less = m.less n l long in omega (arith, one, less)
  answered_sum ts us answer n l (inr (inl x)) long g =
      let one = ap sum_of x.is in let fewer = total_filter m.of (λ (t : Tunnel). not (t.id == x.id)) ts in let less = m.less n l long in omega (arith, one, fewer, less)
  answered_sum ts us answer n l (inr (inr (inl x))) long g =
      let one = ap sum_of x.is in let more = valued_sum x.id x.kind x.bytes ts in let less = m.less n l long in omega (arith, one, more, less)
  answered_sum ts us answer n l (inr (inr (inr x))) long g =
      let t : Tunnel = record { id = x.id; stream = x.on; goal = x.goal; waiting = first_waiting (kind_of x.goal) x.routes } in
      let one = ap sum_of x.is ∙ total_append m.of ts (t ∷ []) in
      let opened = opened_sum n l x.id answer x.routes t x.answered refl (no_first (kind_of x.goal) x.routes) g in
      omega (arith, one, opened)

  framed_sum : (ts us : List Tunnel) (said : Note) → Alone ts → Framed ts said us → sum_of us ≤ sum_of ts
  framed_sum ts us said alone x = elim x.goes [
    | inl goes ↦ (
        let one = ap sum_of goes.1 in
        let sum = set_sum m.of x.t x.ws ts alone x.among in
        let less = m.front x.t x.w x.ws x.waiting in
        omega (arith, one, sum, less))
    | inr goes ↦ (
        let one = ap sum_of goes.2 in
        let sum = set_sum m.of x.t (record x.w { framed = x.w.framed + goes.0 } ∷ x.ws) ts alone x.among in
        let less = m.part x.t x.w x.ws (x.w.framed + goes.0) x.waiting in
        omega (arith, one, sum, less))
  ]

  comes_sum : (ts us : List Tunnel) (t : Tunnel) (from : From) (n : ℕ) (said : Note) → Takes m ts → Comes ts t from n said us → sum_of us ≤ sum_of ts + m.queue said
  comes_sum ts us t from n said takes (inl x) =
      let one = ap sum_of x.is in let more = queued_sum t.id from n x.packet x.capsule ts takes in let same = ap m.queue x.said_is in omega (arith, one, more, same)
  comes_sum ts us t from n said takes (inr x) = let one = ap sum_of x.1 in omega (arith, one)

  -- ---- a connection's step

  abbrev sum_held : Held → ℕ
  sum_held h = sum_of h.conn.tunnels

  abbrev sum_new : Option Held → ℕ
  sum_new None = 0
  sum_new (Some h) = sum_held h

  abbrev HeldSum : Held → Shared → Note → Option Held → Shared → Type 0
  HeldSum old sh said new after = sum_new new + m.book (length after.book) ≤ sum_held old + m.book (length sh.book) + m.queue said

  acted_sum : (h : Held) (sh : Shared) (want : Want) (answer : Answer) (said : Note) (new : Option Held) (after : Shared) → length sh.book ≤ length after.book → IsGivenAt (length sh.book) (length after.book) answer
      → over_or h want answer ≡ Some (said, new) → HeldSum h sh said new after
  acted_sum h sh (Over reason) answer said new after long g e =
      let less = m.less (length sh.book) (length after.book) long in
      let P : Note × Option Held → Type 0 = λ d. HeldSum h sh d.0 d.1 after in
      subst P (some_same e) (omega (arith, less))
  acted_sum h sh want answer said new after long g e =
      let was = map_was _ (done h.conn answer) (said, new) e in
      let sum = answered_sum h.conn.tunnels was.0.1.tunnels answer (length sh.book) (length after.book) (done_tunnels h.conn was.0.1 answer was.0.0 was.1) long g in
      let P : Note × Option Held → Type 0 = λ d. HeldSum h sh d.0 d.1 after in
      subst P was.2 (omega (arith, sum))

  act_sum : (h : Held) (sh : Shared) (answer : Answer) (said : Note) (new : Option Held) (after : Shared) → ActNext h sh answer said new after → HeldSum h sh said new after
  act_sum h sh answer said new after x =
      let so = answer_grows h.conn.actor sh (want_of h.conn) answer after x.answers in
      acted_sum h sh (want_of h.conn) answer said new after (grows_long sh after so.grows) so.gives x.is

  received_sum : (c : Conn) (p : Port) (datagram : List ℕ) (o : Option Tunnel) (d : Note × Conn) → Takes m c.tunnels → option_map (λ (t : Tunnel). settled_note (queued c t (source.Port p.tunnel) p.received datagram)) o ≡ Some d
      → sum_of d.1.tunnels ≤ sum_of c.tunnels + m.queue d.0
  received_sum c p datagram None d takes e = absurd cc
  received_sum c p datagram (Some t) d takes e =
      let P : Note × Conn → Type 0 = λ d. sum_of d.1.tunnels ≤ sum_of c.tunnels + m.queue d.0 in
      subst P (some_same e) (comes_sum c.tunnels _ t (source.Port p.tunnel) p.received _ takes (queued_tunnels c t (source.Port p.tunnel) p.received datagram))

  handles_sum : (setup : Setup) (old : Held) (sh : Shared) → Alone old.conn.tunnels → Takes m old.conn.tunnels → HandlesHeld setup old sh (λ said new after. HeldSum old sh said new after)
  handles_sum setup old sh alone takes = record {
    acts = λ answer said new after x. act_sum old sh answer said new after x;
    link_fails = λ link answer said new after x. act_sum (record old { conn = failed old.conn; link = link }) sh answer said new after x;
    port_fails = λ p t answer said new after is can x. act_sum (record old { conn = port_failed old.conn t }) sh answer said new after x;
    frames = λ d is. let sum = framed_sum old.conn.tunnels d.1.tunnels d.0 alone (framed_tunnels old.conn d is) in omega (arith, sum);
    writes = let same = ap sum_of (wrote_tunnels old.conn (write_count old)) in omega (arith, same);
    reads = λ first c link took. let same = ap sum_of (took_tunnels setup old.conn c _ took) in omega (arith, same);
    ends = λ inside x can. let same = ap sum_of (finished_tunnels old.conn inside) in omega (arith, same);
    receives = λ p datagram others d port arrived came. let sum = received_sum old.conn p datagram (tunnel_of old.conn p.tunnel) d takes came in omega (arith, sum);
  }

  -- ---- a worker's turn

  abbrev pub sum_worker : Worker → ℕ
  sum_worker w = total sum_held w.conns

  -- so it is of each of its connections
  abbrev pub AllTake : Worker → Type 0
  AllTake w = (h : Held) → Among h w.conns → Takes m h.conn.tunnels

  abbrev pub AllAlone : Worker → Type 0
  AllAlone w = (h : Held) → Among h w.conns → Alone h.conn.tunnels

  pub record WorkerSum (old : Worker) (sh : Shared) (more : ℕ) (new : Worker) (after : Shared) : Type 0 where
    pub down : sum_worker new + m.book (length after.book) ≤ sum_worker old + m.book (length sh.book) + more
    pub id : new.id ≡ old.id

  new_sum : (new : Option Held) → of_new sum_held new ≡ sum_new new
  new_sum None = refl
  new_sum (Some h) = refl

  came_sum : (c : Conn) (t : Tunnel) (from : From) (n : ℕ) (o : Option (List ℕ)) → Takes m c.tunnels → sum_of (passed_on c t from n o).1.tunnels ≤ sum_of c.tunnels + m.queue (passed_on c t from n o).0
  came_sum c t from n None takes = omega arith
  came_sum c t from n (Some packet) takes = comes_sum c.tunnels _ t from n _ takes (queued_tunnels c t from n packet)

  abbrev PopSum : Worker → Note × Worker → Type 0
  PopSum w d = (sum_worker d.1 ≤ sum_worker w + m.queue d.0) × (d.1.id ≡ w.id)

  popped_sum : (w : Worker) (parcel : Parcel) → ((i : ℕ) → numbered i w ≤ 1) → AllTake w → PopSum w (popped w parcel)
  popped_sum w parcel few takes =
      elim (cases_of (tunnel_in w parcel.to)) [
        | inl none ↦ rw none (omega arith, refl)
        | inr (found, some) ↦ (
            let among : Among found.0 w.conns = subst (FoundAmong w.conns) some (among_in w parcel.to) in
            let came = came_sum found.0.conn found.1 (source_of parcel.from) parcel.n (onward parcel.packet) (takes found.0 among) in
            let one = few found.0.conn.number in
            let only : total (is_numbered found.0.conn.number) w.conns ≤ 1 = omega (arith, one) in
            let sum = replace_only sum_held found.0 (came_to found.0 found.1 parcel).1 w.conns among only in
            rw some (omega (arith, came, sum), refl))
      ]

  abbrev AcceptSum : Worker → Option (Note × Worker) → Type 0
  AcceptSum w None = Unit {0}
  AcceptSum w (Some d) = (sum_worker d.1 ≤ sum_worker w) × (d.1.id ≡ w.id)

  accepted_sum : (w : Worker) (offered : List Offer) → AcceptSum w (accepted w offered)
  accepted_sum w [] = tt
  accepted_sum w (o ∷ offered) = let sum = total_append sum_held w.conns (record { conn = new_conn o.number w.id; link = o.link; ports = [] } ∷ []) in (omega (arith, sum), refl)

  replaced_sum : (old : Worker) (sh : Shared) (n : ℕ) (held : Held) (became : Option Held) (more : ℕ) (after : Shared) (new : Worker) → held_of old n ≡ Some held
      → sum_new became + m.book (length after.book) ≤ sum_held held + m.book (length sh.book) + more → new.conns ≡ replace n became old.conns → new.id ≡ old.id → WorkerSum old sh more new after
  replaced_sum old sh n held became more after new has down conns id =
      let sum = replace_sum sum_held n became held old.conns has in
      let same = ap (λ (hs : List Held). total sum_held hs) conns in
      let is = new_sum became in
      record { down = omega (arith, sum, same, is, down); id = id }

  pub seat_sum : (old : Worker) (sh : Shared) (seat : Seat) (answer : Answer) (said : Note) (new : Worker) (after : Shared) → ((i : ℕ) → numbered i old ≤ 1) → AllAlone old → AllTake old
      → SeatNext old sh seat answer said new after → WorkerSum old sh (m.queue said) new after
  seat_sum old sh Offers answer said new after few alone takes x =
      let did = subst (AcceptSum old) x.1 (accepted_sum old old.offered) in
      let down = did.0 in
      let same = ap (λ (s : Shared). m.book (length s.book)) x.2 in
      record { down = omega (arith, down, same); id = did.1 }
  seat_sum old sh Inbox answer said new after few alone takes x =
      let did = subst (PopSum old) x.1.is (popped_sum old x.1.parcel few takes) in
      let down = did.0 in
      let same = ap (λ (s : Shared). m.book (length s.book)) x.1.after_is in
      record { down = omega (arith, down, same); id = did.1 }
  seat_sum old sh (Of n) answer said new after few alone takes x =
      let among = found_among (λ (h : Held). h.conn.number == n) old.conns x.held x.has in
      let sum = try_walk old.setup x.held sh (λ said new after. HeldSum x.held sh said new after) (handles_sum old.setup x.held sh (alone x.held among) (takes x.held among)) x.try answer said x.became after x.tries x.next in
      replaced_sum old sh n x.held x.became (m.queue said) after new x.has sum (ap (λ (w : Worker). w.conns) x.new_is) (ap (λ (w : Worker). w.id) x.new_is)

  -- ---- where it was refused memory

  after_sum : (want : Want) (answer : Answer) (ts : List Tunnel) (n l : ℕ) → n ≤ l → IsGivenAt n l answer → sum_of (tunnels_after want answer ts) + m.book l ≤ sum_of ts + m.book n
  after_sum (Ask (call.Open conn on actor goal)) (Replied (reply.Opened tunnel routes)) ts n l long g =
      let t : Tunnel = record { id = tunnel; stream = on; goal = goal; waiting = [] } in
      let one = total_append m.of ts (t ∷ []) in
      let opened = opened_sum n l tunnel (Replied (reply.Opened tunnel routes)) routes t refl refl (inl refl) g in
      omega (arith, one, opened)
  after_sum want answer ts n l long g = let less = m.less n l long in omega (arith, less)

  heard_sum : (asked : Bool) (old : Held) (sh : Shared) (try : Try) (answer : Answer) (tunnels : List Tunnel) (after : Shared) → Heard asked old sh try answer tunnels after
      → sum_of tunnels + m.book (length after.book) ≤ sum_held old + m.book (length sh.book)
  heard_sum false old sh try answer tunnels after x =
      let one = ap sum_of x.1 in let same = ap (λ (s : Shared). m.book (length s.book)) x.2 in omega (arith, one, same)
  heard_sum true old sh try answer tunnels after x =
      let so = answer_grows old.conn.actor sh (want_of old.conn) answer after x.answers in
      let one = ap sum_of x.tunnels_are in
      let sum = after_sum (want_of old.conn) answer old.conn.tunnels (length sh.book) (length after.book) (grows_long sh after so.grows) so.gives in
      omega (arith, one, sum)

  pub starves_sum : (old : Worker) (sh : Shared) (seat : Seat) (reached : Reached) (answer : Answer) (new : Worker) (after : Shared) → SeatStarves old sh seat reached answer new after → WorkerSum old sh 0 new after
  starves_sum old sh Offers reached answer new after x =
      let same = ap (λ (s : Shared). m.book (length s.book)) x.3 in
      let worker = ap sum_worker x.2 in
      record { down = omega (arith, same, worker); id = ap (λ (w : Worker). w.id) x.2 }
  starves_sum old sh Inbox reached answer new after x = absurd x
  starves_sum old sh (Of n) reached answer new after x =
      let sum = heard_sum reached.asked x.held sh x.try answer x.tunnels after x.heard in
      let now : Held = record x.held { link = record x.held.link { pieces = x.pieces }; conn = record (starved x.held.conn) { tunnels = x.tunnels } } in
      replaced_sum old sh n x.held (Some now) 0 after new x.has (omega (arith, sum)) (ap (λ (w : Worker). w.conns) x.new_is) (ap (λ (w : Worker). w.id) x.new_is)

  -- ---- all workers, or some

  module _ (v : ℕ → Bool) where
    abbrev pub sum_if : Worker → ℕ
    sum_if w = cond (v w.id) (sum_worker w) 0

    abbrev pub sum_state : State → ℕ
    sum_state s = total sum_if s.workers + m.book (length s.shared.book)

    if_sum : (b c : Bool) (x y p q more : ℕ) → b ≡ c → x + p ≤ y + q + more → p ≤ q → cond b x 0 + p ≤ cond c y 0 + q + cond c more 0
    if_sum true true x y p q more e h l = h
    if_sum false false x y p q more e h l = omega (arith, l)
    if_sum true false x y p q more e h l = absurd cc
    if_sum false true x y p q more e h l = absurd cc

    pub worker_sum : (old : State) (number : ℕ) (worker next : Worker) (shared after : Shared) (new : State) (more : ℕ) → slice_get old.workers number ≡ Some worker → WorkerSum worker old.shared more next shared
        → length old.shared.book ≤ length shared.book → after ≡ record shared { orders = after.orders } → new ≡ record old { workers = slice_set old.workers number next; shared = after }
        → sum_state new ≤ sum_state old + cond (v worker.id) more 0
    worker_sum old number worker next shared after new more at did long same is =
        let sum = total_set sum_if old.workers number worker next at in
        let less = m.less (length old.shared.book) (length shared.book) long in
        let own = if_sum (v next.id) (v worker.id) (sum_worker next) (sum_worker worker) (m.book (length shared.book)) (m.book (length old.shared.book)) more (ap v did.id) did.down less in
        let book = ap (λ (s : Shared). m.book (length s.book)) same in
        let workers = ap (λ (s : State). total sum_if s.workers) is in
        let books = ap (λ (s : State). m.book (length s.shared.book)) is in
        omega (arith, sum, own, book, workers, books)

    -- of a worker that isn't meant
    pub other_sum : (old : State) (number : ℕ) (worker next : Worker) (shared after : Shared) (new : State) → slice_get old.workers number ≡ Some worker → next.id ≡ worker.id → v worker.id ≡ false
        → length old.shared.book ≤ length shared.book → after ≡ record shared { orders = after.orders } → new ≡ record old { workers = slice_set old.workers number next; shared = after } → sum_state new ≤ sum_state old
    other_sum old number worker next shared after new at id other long same is =
        let sum = total_set sum_if old.workers number worker next at in
        let less = m.less (length old.shared.book) (length shared.book) long in
        let now : sum_if next ≡ 0 = let none = ap v id ∙ other in rw none refl in
        let book = ap (λ (s : Shared). m.book (length s.book)) same in
        let workers = ap (λ (s : State). total sum_if s.workers) is in
        let books = ap (λ (s : State). m.book (length s.shared.book)) is in
        omega (arith, sum, now, less, book, workers, books)

    -- ---- what happens

    pub link_sum : (n : ℕ) (change : Link → Link) (ws : List Worker) → total sum_if (map (at_worker n change) ws) ≤ total sum_if ws
    link_sum n change ws = total_map sum_if (at_worker n change) ws (λ w.
        let less = total_map sum_held (at_held n change) w.conns (λ h. if_both (λ (x : Held). sum_held x ≤ sum_held h) (h.conn.number == n) (record h { link = change h.link }) h (omega arith) (omega arith)) in
        both_less (v w.id) (sum_worker (at_worker n change w)) (sum_worker w) less)
      where
        both_less : (b : Bool) (x y : ℕ) → x ≤ y → cond b x 0 ≤ cond b y 0
        both_less true x y h = h
        both_less false x y h = omega arith

    pub port_sum : (n : ℕ) (change : Port → Port) (ws : List Worker) → total sum_if (map (with_held_ports n change) ws) ≤ total sum_if ws
    port_sum n change ws = total_map sum_if (with_held_ports n change) ws (λ w.
        let less = total_map sum_held (with_ports n change) w.conns (λ h. omega arith) in
        both_less (v w.id) (sum_worker (with_held_ports n change w)) (sum_worker w) less)
      where
        both_less : (b : Bool) (x y : ℕ) → x ≤ y → cond b x 0 ≤ cond b y 0
        both_less true x y h = h
        both_less false x y h = omega arith

    offered_sum : (actor number : ℕ) (ws : List Worker) → total sum_if (offered_to actor number ws) ≤ total sum_if ws
    offered_sum actor number [] = omega arith
    offered_sum zero number (w ∷ ws) = omega arith
    offered_sum (suc actor) number (w ∷ ws) = let rest = offered_sum actor number ws in omega (arith, rest)

    pub happen_sum : (s : State) (e : Event) → sum_state (happen s e) ≤ sum_state s
    happen_sum s (event.Conn actor) = let less = offered_sum actor (length s.links) s.workers in omega (arith, less)
    happen_sum s (event.Piece conn bytes) = let less = link_sum conn (λ (l : Link). record l { pieces = l.pieces ++ bytes ∷ [] }) s.workers in omega (arith, less)
    happen_sum s (event.End conn) = let less = link_sum conn (λ (l : Link). record l { is_ended = true }) s.workers in omega (arith, less)
    happen_sum s (event.Room conn room) = let less = link_sum conn (λ (l : Link). record l { room = room }) s.workers in omega (arith, less)
    happen_sum s (event.FailRead conn) = let less = link_sum conn (λ (l : Link). record l { read_fails = true }) s.workers in omega (arith, less)
    happen_sum s (event.FailWrite conn) = let less = link_sum conn (λ (l : Link). record l { write_fails = true }) s.workers in omega (arith, less)
    happen_sum s (event.Datagram tunnel bytes) = let less = port_sum tunnel (λ (p : Port). record p { arrived = p.arrived ++ bytes ∷ [] }) s.workers in omega (arith, less)
    happen_sum s (event.FailPort tunnel) = let less = port_sum tunnel (λ (p : Port). record p { send_fails = true }) s.workers in omega (arith, less)
    happen_sum s event.FailBind = omega arith
    happen_sum s event.FailNet = omega arith
    happen_sum s (event.Packet count bytes) = omega arith
    happen_sum s (event.Step actor) = omega arith
