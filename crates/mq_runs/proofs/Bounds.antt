-- While the earlier of two payloads isn't pushed, the later one isn't either.
use Rattle.std.proofs.Common.{◌≡◌, ◌≤◌, ◌<◌, ◌+◌, ℕ, Bool, true, false, cond, List, [], ◌∷◌, length, nat_le, slice_get, Option, Some, None, refl, sym, subst, ap, ◌∙◌, arith, inl, inr}
use Rattle.std.specs.Prelude.{◌==◌}
use Rattle.std.proofs.lemmas.Bool.{eqb-true, leb-true, le-leb, eq-eqb}
use Rattle.mq_talk.specs.declared.note.From.{From}
use Rattle.mq_talk.specs.declared.note.From.TheVariants as source
use Rattle.mq_talk.specs.declared.place.Origin.{Origin}
use Rattle.mq_talk.specs.declared.place.Origin.TheVariants as origin
use Rattle.mq_talk.specs.declared.place.Parcel.{Parcel}
use Rattle.mq_machine.specs.declared.act.Act.TheVariants as act
use Rattle.mq_machine.specs.declared.act.StreamAct.{StreamAct}
use Rattle.mq_machine.specs.declared.act.StreamAct.TheVariants as stream
use Rattle.mq_machine.specs.declared.act.Due.{Due}
use Rattle.mq_machine.specs.declared.act.Due.TheVariants as due
use Rattle.mq_machine.specs.State.{Conn, Tunnel, Waiting, What, Packet, Value, Port, Held, Worker, State}
use Rattle.mq_machine.specs.Turn.{source_of}
use Rattle.mq_machine.proofs.Lawful.Lists.{itself}
use Rattle.mq_runs.specs.Ends.{is_same}
use Rattle.mq_runs.proofs.Boxes.{PushFront}
use Rattle.mq_runs.proofs.Facts.{InFront}
use Rattle.mq_runs.proofs.Flight.{Key, asks, hit, past, past_less, due_asks, asked_on, left_on, flows, FlowsOnce, in_what, waits_in, is_own, in_tunnel, in_conn}
use Rattle.mq_runs.proofs.Measures.{sum_worker, sum_state}
use Rattle.mq_runs.proofs.Moving.{parcel_hit, in_boxes, port_left, in_ports, in_held, unopened}
use Rattle.mq_runs.proofs.Pumps.{push_hit, in_push, in_hand, net_left}
use Rattle.mq_runs.proofs.Ranks.{behind, behind_front, Among, found_among, at_among, among_less, none_total, only_one}
use Rattle.mq_runs.proofs.Sums.{total, total_less, total_zero, cond_less}
use Rattle.mq_runs.proofs.Tidy.{first, Tidy, left_earlier, from_earlier}
use Rattle.mq_runs.proofs.Tokens.{own_measure, own_book, early, waits_push, cond_zero}
use Rattle.mq_runs.proofs.Took.{from_on, left_all}
use Rattle.mq_runs.proofs.Walks.{found_passes}
use Rattle.mq_runs.proofs.Whole.{in_state}
use Rattle.mq_runs.proofs.Workers.{in_worker}

among_more : {A : Type 0} (f g : A → ℕ) (xs : List A) (x : A) → Among x xs → ((y : A) → f y ≤ g y) → f x + 1 ≤ g x → total f xs + 1 ≤ total g xs
among_more f g [] x among less more = absurd among
among_more f g (y ∷ ys) x (inl same) less more =
    let one = ap f same in
    let two = ap g same in
    let rest = total_less f g ys less in
    omega (arith, one, two, rest, more)
among_more f g (y ∷ ys) x (inr there) less more =
    let here = less y in
    let rest = among_more f g ys x there less more in
    omega (arith, here, rest)

both_true : (b c : Bool) → 1 ≤ cond b (cond c 1 0) 0 → (b ≡ true) × (c ≡ true)
both_true true true h = (refl, refl)
both_true true false h = absurd (omega (arith, h))
both_true false c h = absurd (omega (arith, h))

pub hit_parts : (k : Key) (from : From) (n : ℕ) → 1 ≤ past k from n → (is_same from k.from ≡ true) × (n ≡ k.number)
hit_parts k from n h =
    let less = past_less k from n in
    let parts = both_true (is_same from k.from) (n == k.number) (omega (arith, h, less)) in
    (parts.0, eqb-true n k.number parts.1)

-- ---- an origin is one thing

port_not_own : (f : From) (id q : ℕ) → is_same (source.Tunnel id) f ≡ true → is_same (source.Port q) f ≡ false
port_not_own (source.Tunnel t) id q h = refl
port_not_own source.Net id q h = refl
port_not_own (source.Port t) id q h = absurd cc

net_not_own : (f : From) (id : ℕ) → is_same (source.Tunnel id) f ≡ true → is_same source.Net f ≡ false
net_not_own (source.Tunnel t) id h = refl
net_not_own source.Net id h = absurd cc
net_not_own (source.Port t) id h = refl

left_not_own : (f : From) (id r n : ℕ) → is_same (source.Tunnel id) f ≡ true → net_left f r n ≡ 0
left_not_own (source.Tunnel t) id r n h = refl
left_not_own source.Net id r n h = absurd cc
left_not_own (source.Port t) id r n h = refl

book_own : (f : From) (id n : ℕ) → is_same (source.Tunnel id) f ≡ true → unopened f n ≡ own_book f n
book_own (source.Tunnel t) id n h = refl
book_own source.Net id n h = absurd cc
book_own (source.Port t) id n h = absurd cc

pub own_not_net : (f : From) (id : ℕ) → is_same source.Net f ≡ true → is_same (source.Tunnel id) f ≡ false
own_not_net (source.Tunnel t) id h = absurd cc
own_not_net source.Net id h = refl
own_not_net (source.Port t) id h = absurd cc

port_not_net : (f : From) (id : ℕ) → is_same source.Net f ≡ true → is_same (source.Port id) f ≡ false
port_not_net (source.Tunnel t) id h = absurd cc
port_not_net source.Net id h = refl
port_not_net (source.Port t) id h = absurd cc

book_net : (f : From) (n : ℕ) → is_same source.Net f ≡ true → unopened f n ≡ 0
book_net (source.Tunnel t) n h = absurd cc
book_net source.Net n h = refl
book_net (source.Port t) n h = absurd cc

own_not_port : (f : From) (id q : ℕ) → is_same (source.Port q) f ≡ true → is_same (source.Tunnel id) f ≡ false
own_not_port (source.Tunnel t) id q h = absurd cc
own_not_port source.Net id q h = absurd cc
own_not_port (source.Port t) id q h = refl

net_not_port : (f : From) (q : ℕ) → is_same (source.Port q) f ≡ true → is_same source.Net f ≡ false
net_not_port (source.Tunnel t) q h = absurd cc
net_not_port source.Net q h = absurd cc
net_not_port (source.Port t) q h = refl

left_not_port : (f : From) (q r n : ℕ) → is_same (source.Port q) f ≡ true → net_left f r n ≡ 0
left_not_port (source.Tunnel t) q r n h = absurd cc
left_not_port source.Net q r n h = absurd cc
left_not_port (source.Port t) q r n h = refl

-- no parcel comes from a port
pub no_parcel : (k : Key) (q : ℕ) (from : Origin) (n : ℕ) → is_same (source.Port q) k.from ≡ true → past k (source_of from) n ≡ 0
no_parcel k q (origin.Tunnel u) n h = let no = own_not_port k.from u q h in rw no (cond_zero k.to_the_end 0 refl)
no_parcel k q origin.Net n h = let no = net_not_port k.from q h in rw no (cond_zero k.to_the_end 0 refl)

module _ (k : Key) (a : ℕ) (earlier : a < k.number) where
  abbrev w : Key
  w = waits_push k a 0

  other_number : (n : ℕ) → n ≡ k.number → (n == a) ≡ false
  other_number n is = by_test (n == a) refl where
    by_test : (b : Bool) → (n == a) ≡ b → b ≡ false
    by_test true e = let same = eqb-true n a e in absurd (omega (arith, same, is, earlier))
    by_test false e = refl

  waits_none : (ws : List Waiting) → waits_in w ws ≡ 0
  waits_none ws = total_zero (λ (x : Waiting). in_what w x.what) ws (λ x. what_none x.what) where
    what_none : (x : What) → in_what w x ≡ 0
    what_none (Packet from n packet) = refl
    what_none Value = refl

  boxes_none : (boxes : List (List Parcel)) → in_boxes w boxes ≡ 0
  boxes_none boxes = total_zero (λ (box : List Parcel). total (parcel_hit w) box) boxes (λ box. total_zero (parcel_hit w) box (λ p. refl))

  hand_none : (o : Option Parcel) → in_hand w o ≡ 0
  hand_none None = refl
  hand_none (Some p) = refl

  -- a parcel that the pump holds isn't one, where its origin isn't the network
  push_none : (o : Option Parcel) → is_same source.Net k.from ≡ false → in_push w o ≡ 0
  push_none None h = refl
  push_none (Some p) h = by_from p.from p.n where
    by_from : (from : Origin) (n : ℕ) → cond (is_same (source_of from) source.Net) (hit w (source_of from) n) (past w (source_of from) n) ≡ 0
    by_from (origin.Tunnel u) n = refl
    by_from origin.Net n = rw h refl

  -- ---- at least

  pub least_tunnel : (s : State) (number : ℕ) (x : Worker) (h : Held) (t : Tunnel) → slice_get s.workers number ≡ Some x → Among h x.conns → Among t h.conn.tunnels
      → cond (is_own k t.id) (flows w h.conn t.stream) 0 ≤ in_state w s
  least_tunnel s number x h t at among there =
      let one = among_less (in_worker w) s.workers x (at_among s.workers number x at) in
      let two = among_less (in_held w) x.conns h among in
      let three = among_less (in_tunnel w (flows w h.conn)) h.conn.tunnels t there in
      omega (arith, one, two, three)

  least_port : (s : State) (number : ℕ) (x : Worker) (h : Held) (p : Port) → slice_get s.workers number ≡ Some x → Among h x.conns → Among p h.ports → port_left w p ≤ in_state w s
  least_port s number x h p at among there =
      let one = among_less (in_worker w) s.workers x (at_among s.workers number x at) in
      let two = among_less (in_held w) x.conns h among in
      let three = among_less (port_left w) h.ports p there in
      omega (arith, one, two, three)

  on_is : (c : Conn) (b : StreamAct) (f : InFront c b) → f.t.stream ≡ f.on
  on_is c b f = eqb-true f.t.stream f.on (found_passes (λ (t : Tunnel). t.stream == f.on) c.tunnels f.t f.serves)

  -- the earlier one is pushed: it was before that
  pub push_least : (s : State) (number : ℕ) (x : Worker) (h : Held) (parcel : Parcel) → slice_get s.workers number ≡ Some x → Among h x.conns → PushFront h.conn parcel
      → 1 ≤ parcel_hit (early k a 0) parcel → 1 ≤ in_state w s
  push_least s number x h parcel at among p some =
      let f = p.front in
      let t = f.t in
      let there = found_among (λ (t : Tunnel). t.stream == f.on) h.conn.tunnels t f.serves in
      let least = least_tunnel s number x h t at among there in
      let now : 1 ≤ past (early k a 0) (source.Tunnel t.id) p.n = subst (λ (q : Parcel). 1 ≤ parcel_hit (early k a 0) q) p.is some in
      let less = past_less (early k a 0) (source.Tunnel t.id) p.n in
      let asked : cond (p.n == a) 1 0 ≤ flows w h.conn t.stream =
      (let due_is = ap (asked_on w t.stream) f.due_is in
      let same : (f.on == t.stream) ≡ true = eq-eqb f.on t.stream (sym (on_is h.conn (stream.Push p.n p.to p.packet) f)) in
      let here : due_asks w t.stream (due.Do (act.OfStream f.on (stream.Push p.n p.to p.packet))) ≡ cond (p.n == a) 1 0 = rw same refl in
      omega (arith, due_is, here)) in
      let more = cond_less (is_own k t.id) (cond (p.n == a) 1 0) (flows w h.conn t.stream) asked in
      omega (arith, least, now, less, more)

  pub hand_least : (s : State) (parcel : Parcel) → s.pump.to_push ≡ Some parcel → parcel.from ≡ origin.Net → 1 ≤ parcel_hit (early k a 0) parcel → 1 ≤ in_state w s
  hand_least s parcel is net some =
      let had = ap (in_push w) is in
      let less = past_less (early k a 0) (source_of parcel.from) parcel.n in
      let here : push_hit w parcel ≡ hit w (source_of parcel.from) parcel.n = rw net refl in
      omega (arith, had, less, here, some)

  self_on : (n : ℕ) → from_on n n ≡ 1
  self_on n = let is = le-leb n n (omega arith) in rw is refl

  pub port_least : (s : State) (number : ℕ) (x : Worker) (h : Held) (p : Port) → slice_get s.workers number ≡ Some x → Among h x.conns → Among p h.ports
      → 1 ≤ past (early k a 0) (source.Port p.tunnel) p.received → 1 ≤ in_state w s
  port_least s number x h p at among there some =
      let parts = hit_parts (early k a 0) (source.Port p.tunnel) p.received some in
      let least = least_port s number x h p at among there in
      let same = ap (λ r. from_on r a) parts.1 ∙ self_on a in
      let here : port_left w p ≡ 1 = rw parts.0 same in
      omega (arith, least, here)

  -- ---- at most

  -- where only this tunnel is the origin, all is due on its stream
  module _ (s : State) (number : ℕ) (x : Worker) (h : Held) (t : Tunnel) (at : slice_get s.workers number ≡ Some x) (among : Among h x.conns) (there : Among t h.conn.tunnels) (own : is_own k t.id ≡ true)
      (unique : sum_state (own_measure k) (λ id. true) s ≤ 1) where
    ports_none : (ports : List Port) → in_ports w ports ≡ 0
    ports_none ports = total_zero (port_left w) ports (λ p. let other = port_not_own k.from t.id p.tunnel own in rw other refl)

    tunnel_none : (f : ℕ → ℕ) (u : Tunnel) → ◌≡◌ {A = ℕ} (cond (is_own k u.id) 1 0) 0 → in_tunnel w f u ≡ 0
    tunnel_none f u e = let none = waits_none u.waiting in by_own (is_own k u.id) e none where
      by_own : (b : Bool) → ◌≡◌ {A = ℕ} (cond b 1 0) 0 → waits_in w u.waiting ≡ 0 → waits_in w u.waiting + cond b (f u.stream) 0 ≡ 0
      by_own true e none = absurd (omega (arith, e))
      by_own false e none = omega (arith, none)

    held_none : (g : Held) → total (λ (t : Tunnel). cond (is_own k t.id) 1 0) g.conn.tunnels ≡ 0 → in_held w g ≡ 0
    held_none g e =
        let tunnels = none_total (in_tunnel w (flows w g.conn)) (λ (t : Tunnel). cond (is_own k t.id) 1 0) g.conn.tunnels (tunnel_none (flows w g.conn)) e in
        let ports = ports_none g.ports in
        omega (arith, tunnels, ports)

    worker_none : (y : Worker) → sum_worker (own_measure k) y ≡ 0 → in_worker w y ≡ 0
    worker_none y e = none_total (in_held w) (λ (g : Held). total (λ (t : Tunnel). cond (is_own k t.id) 1 0) g.conn.tunnels) y.conns held_none e

    pub most_tunnel : in_state w s ≤ flows w h.conn t.stream
    most_tunnel =
        let one : ◌≡◌ {A = ℕ} (cond (is_own k t.id) 1 0) 1 = rw own refl in
        let m = own_measure k in
        let of : Tunnel → ℕ = λ (t : Tunnel). cond (is_own k t.id) 1 0 in
        let in_h = among_less of h.conn.tunnels t there in
        let in_x = among_less (λ (g : Held). total of g.conn.tunnels) x.conns h among in
        let in_s = among_less (sum_worker m) s.workers x (at_among s.workers number x at) in
        let workers = only_one (in_worker w) (sum_worker m) s.workers x (at_among s.workers number x at) (omega (arith, one, in_h, in_x)) (omega (arith, unique)) worker_none in
        let helds = only_one (in_held w) (λ (g : Held). total of g.conn.tunnels) x.conns h among (omega (arith, one, in_h)) (omega (arith, in_s, unique)) held_none in
        let tunnels = only_one (in_tunnel w (flows w h.conn)) of h.conn.tunnels t there (omega (arith, one)) (omega (arith, in_x, in_s, unique)) (tunnel_none (flows w h.conn)) in
        let ports = ports_none h.ports in
        let waits = waits_none t.waiting in
        let mine : cond (is_own k t.id) (flows w h.conn t.stream) 0 ≡ flows w h.conn t.stream = rw own refl in
        let push = push_none s.pump.to_push (net_not_own k.from t.id own) in
        let hand = hand_none s.pump.to_send in
        let net = left_not_own k.from t.id s.pump.net.received a own in
        let boxes = boxes_none s.shared.boxes in
        let book = book_own k.from t.id (length s.shared.book) own in
        omega (arith, workers, helds, tunnels, ports, waits, mine, push, hand, net, boxes, book, unique, one, in_h, in_x, in_s)

  -- the later one is in front: the earlier one isn't due, and won't be
  pub front_none : (c : Conn) (b : StreamAct) (f : InFront c b) → asks k b ≡ 1 → asks w b ≡ 0 → Tidy k a earlier c → FlowsOnce k c → flows w c f.t.stream ≡ 0
  front_none c b f one none tidy_is once =
      let id = f.t.stream in
      let d : Due = due.Do (act.OfStream f.on b) in
      let same : (f.on == id) ≡ true = eq-eqb f.on id (sym (on_is c b f)) in
      let later : due_asks k id d ≡ 1 = rw same one in
      let sooner : due_asks w id d ≡ 0 = rw same none in
      let ordered : behind (due_asks (first k a earlier) id) (due_asks k id) (d ∷ f.others) ≡ 0 = subst (λ (ds : List Due). behind (due_asks (first k a earlier) id) (due_asks k id) ds ≡ 0) f.due_is (tidy_is id) in
      let others : asked_on w id f.others ≡ 0 = behind_front (due_asks (first k a earlier) id) (due_asks k id) d f.others (omega (arith, later)) ordered in
      let all = ap (asked_on w id) f.due_is in
      let all_later = ap (asked_on k id) f.due_is in
      let left = ap (λ o. left_on w id o c.streams) f.goes_on in
      let left_later = ap (λ o. left_on k id o c.streams) f.goes_on in
      let less : left_all w id c.streams ≤ left_all k id c.streams = left_earlier k a earlier id c.streams in
      let few = once id in
      omega (arith, later, sooner, others, all, all_later, left, left_later, less, few)

  -- a payload of this number
  number_asks : (n : ℕ) → n ≡ k.number → ◌≡◌ {A = ℕ} (cond (n == k.number) 1 0) 1
  number_asks n is = let yes = eq-eqb n k.number is in rw yes refl

  number_skips : (n : ℕ) → n ≡ k.number → ◌≡◌ {A = ℕ} (cond (n == a) 1 0) 0
  number_skips n is = let other = other_number n is in rw other refl

  pub push_none_left : (s : State) (number : ℕ) (x : Worker) (h : Held) (parcel : Parcel) → slice_get s.workers number ≡ Some x → Among h x.conns → PushFront h.conn parcel → Tidy k a earlier h.conn → FlowsOnce k h.conn
      → sum_state (own_measure k) (λ id. true) s ≤ 1 → 1 ≤ parcel_hit k parcel → in_state w s ≡ 0
  push_none_left s number x h parcel at among p tidy_is once unique some =
      let f = p.front in
      let now : 1 ≤ past k (source.Tunnel f.t.id) p.n = subst (λ (q : Parcel). 1 ≤ parcel_hit k q) p.is some in
      let parts = hit_parts k (source.Tunnel f.t.id) p.n now in
      let there = found_among (λ (t : Tunnel). t.stream == f.on) h.conn.tunnels f.t f.serves in
      let most = most_tunnel s number x h f.t at among there parts.0 unique in
      let none = front_none h.conn (stream.Push p.n p.to p.packet) f (number_asks p.n parts.1) (number_skips p.n parts.1) tidy_is once in
      omega (arith, most, none)

  -- ---- the network's

  pub hand_none_left : (s : State) (parcel : Parcel) → s.pump.to_push ≡ Some parcel → parcel.from ≡ origin.Net → in_state k s ≤ 1 → 1 ≤ parcel_hit k parcel → in_state w s ≡ 0
  hand_none_left s parcel is net few some =
      let now : 1 ≤ past k source.Net parcel.n = subst (λ o. 1 ≤ past k (source_of o) parcel.n) net some in
      let parts = hit_parts k source.Net parcel.n now in
      let workers = total_zero (in_worker w) s.workers (λ x. total_zero (in_held w) x.conns (λ h. held_zero parts.0 h)) in
      let had = ap (in_push w) is in
      let had_later = ap (in_push k) is in
      let here : push_hit w parcel ≡ 0 = rw (net, parts.0) (let other = other_number parcel.n parts.1 in rw other refl) in
      let here_later : push_hit k parcel ≡ 1 = rw (net, parts.0) (let yes = eq-eqb parcel.n k.number parts.1 in rw yes refl) in
      let hand = hand_none s.pump.to_send in
      let boxes = boxes_none s.shared.boxes in
      let book = book_net k.from (length s.shared.book) parts.0 in
      let net_less = net_earlier k.from s.pump.net.received in
      omega (arith, workers, had, had_later, here, here_later, hand, boxes, book, net_less, few)
    where
      held_zero : is_same source.Net k.from ≡ true → (h : Held) → in_held w h ≡ 0
      held_zero is h =
          let tunnels = total_zero (in_tunnel w (flows w h.conn)) h.conn.tunnels (λ t. let none = waits_none t.waiting in let other = own_not_net k.from t.id is in rw other (omega (arith, none))) in
          let ports = total_zero (port_left w) h.ports (λ p. let other = port_not_net k.from p.tunnel is in rw other refl) in
          omega (arith, tunnels, ports)

      net_earlier : (f : From) (r : ℕ) → net_left f r a ≤ net_left f r k.number
      net_earlier (source.Tunnel t) r = omega arith
      net_earlier source.Net r = from_earlier k a earlier r
      net_earlier (source.Port t) r = omega arith

  -- ---- a port's

  pub port_none_left : (s : State) (number : ℕ) (x : Worker) (h : Held) (p : Port) → slice_get s.workers number ≡ Some x → Among h x.conns → Among p h.ports → in_state k s ≤ 1
      → 1 ≤ past k (source.Port p.tunnel) p.received → in_state w s ≡ 0
  port_none_left s number x h p at among there few some =
      let parts = hit_parts k (source.Port p.tunnel) p.received some in
      let port_less : (q : Port) → port_left w q ≤ port_left k q = λ q. cond_less (is_same (source.Port q.tunnel) k.from) (from_on q.received a) (from_on q.received k.number) (from_earlier k a earlier q.received) in
      let conn_zero : (g : Held) → in_conn w g.conn ≡ 0 = λ g. total_zero (in_tunnel w (flows w g.conn)) g.conn.tunnels (λ t. let none = waits_none t.waiting in let other = own_not_port k.from t.id p.tunnel parts.0 in rw other (omega (arith, none))) in
      let held_less : (g : Held) → in_held w g ≤ in_held k g = λ g. let zero_here = conn_zero g in let less = total_less (port_left w) (port_left k) g.ports port_less in omega (arith, zero_here, less) in
      let worker_less : (y : Worker) → in_worker w y ≤ in_worker k y = λ y. total_less (in_held w) (in_held k) y.conns held_less in
      let past_it = passed_on p.received parts.1 in
      let self = self_on k.number in
      let same = ap (λ r. from_on r k.number) parts.1 in
      let port_more : port_left w p + 1 ≤ port_left k p = rw parts.0 (omega (arith, past_it, self, same)) in
      let ports = among_more (port_left w) (port_left k) h.ports p there port_less port_more in
      let zero_here = conn_zero h in
      let held_more : in_held w h + 1 ≤ in_held k h = omega (arith, zero_here, ports) in
      let helds = among_more (in_held w) (in_held k) x.conns h among held_less held_more in
      let workers = among_more (in_worker w) (in_worker k) s.workers x (at_among s.workers number x at) worker_less helds in
      let push = push_none s.pump.to_push (net_not_port k.from p.tunnel parts.0) in
      let hand = hand_none s.pump.to_send in
      let net = left_not_port k.from p.tunnel s.pump.net.received a parts.0 in
      let boxes = boxes_none s.shared.boxes in
      omega (arith, workers, push, hand, net, boxes, few)
    where
      passed_by : (b : Bool) (r : ℕ) → nat_le r a ≡ b → r ≡ k.number → ◌≡◌ {A = ℕ} (cond b 1 0) 0
      passed_by true r e is = let one = leb-true r a e in absurd (omega (arith, one, is, earlier))
      passed_by false r e is = refl

      passed_on : (r : ℕ) → r ≡ k.number → from_on r a ≡ 0
      passed_on r is = passed_by (nat_le r a) r refl is

  -- ---- a payload that goes to its port

  -- the later one is in front: the earlier one isn't before it
  pub put_none_left : (s : State) (number : ℕ) (x : Worker) (h : Held) (n : ℕ) (payload : List ℕ) (f : InFront h.conn (stream.Payload n payload)) → slice_get s.workers number ≡ Some x → Among h x.conns → Tidy k a earlier h.conn → FlowsOnce k h.conn
      → sum_state (own_measure k) (λ id. true) s ≤ 1 → is_own k f.t.id ≡ true → n ≡ k.number → in_state w s ≡ 0
  put_none_left s number x h n payload f at among tidy_is once unique own is =
      let there = found_among (λ (t : Tunnel). t.stream == f.on) h.conn.tunnels f.t f.serves in
      let most = most_tunnel s number x h f.t at among there own unique in
      let none = front_none h.conn (stream.Payload n payload) f (number_asks n is) (number_skips n is) tidy_is once in
      omega (arith, most, none)

  -- the earlier one is in front: it was before that
  pub put_least : (s : State) (number : ℕ) (x : Worker) (h : Held) (payload : List ℕ) (f : InFront h.conn (stream.Payload a payload)) → slice_get s.workers number ≡ Some x → Among h x.conns → is_own k f.t.id ≡ true → 1 ≤ in_state w s
  put_least s number x h payload f at among own =
      let t = f.t in
      let there = found_among (λ (t : Tunnel). t.stream == f.on) h.conn.tunnels t f.serves in
      let least = least_tunnel s number x h t at among there in
      let due_is = ap (asked_on w t.stream) f.due_is in
      let same : (f.on == t.stream) ≡ true = eq-eqb f.on t.stream (sym (on_is h.conn (stream.Payload a payload) f)) in
      let here : due_asks w t.stream (due.Do (act.OfStream f.on (stream.Payload a payload))) ≡ 1 = rw same (let yes = itself a in rw yes refl) in
      let mine : cond (is_own k t.id) (flows w h.conn t.stream) 0 ≡ flows w h.conn t.stream = rw own refl in
      omega (arith, least, due_is, here, mine)
