-- What comes to a tunnel waits in it or ends there, and what waits first is delivered.
use Rattle.std.proofs.Common.{◌≡◌, ◌≤◌, ◌+◌, ℕ, Bool, true, false, cond, List, [], ◌∷◌, ◌++◌, length, drop, take, nat_le, nat_lt, ◌||◌, Option, Some, None, option_map, refl, subst, ap, ◌∙◌, arith, inl, inr, ◌⊎◌}
use Rattle.std.specs.Prelude.{find, ◌==◌, option_and_then}
use Rattle.std.specs.List.{filter}
use Rattle.mq_capsule.specs.Writing.{capsule_text, datagram}
use Rattle.mq_talk.specs.declared.note.End.{End}
use Rattle.mq_talk.specs.declared.note.End.TheVariants as end
use Rattle.mq_talk.specs.declared.note.From.{From}
use Rattle.mq_talk.specs.declared.note.Note.{Note}
use Rattle.mq_machine.specs.Lawful.{Alone, has_on}
use Rattle.mq_machine.specs.Putting.{putting}
use Rattle.mq_machine.specs.Settle.{settle}
use Rattle.mq_machine.specs.State.{Conn, Front, Head, OverHttp1, OverHttp2, Tunnel, Waiting, What, Packet, Value, packets, waiting_bytes}
use Rattle.mq_machine.specs.Steps.{can_frame, can_go_on, frame_size, framing, finish_by, finished, framed, framed_by, framed_front, given_up, most_packets, most_waiting, next_framed, passed_on, port_failed, queued, set_waiting, settled_note, tunnels_from, whole_note, wrote}
use Rattle.mq_machine.proofs.Lawful.Lists.{In, found_in, in_has, itself}
use Rattle.mq_play.proofs.Lists.{if_both}
use Rattle.std.proofs.lemmas.Bool.{eqb-true}
use Rattle.mq_runs.proofs.Flight.{Key, asked_on, left_on, past, flows, in_what, waits_in, in_tunnels, end_of, Calm, calm_on, calm_conn, calm_once, putting_calm, waits_more, settle_calm, Down, down_calm}

-- what a connection lets go, where so much comes
abbrev pub DownNote : Key → Conn → ℕ → Note × Conn → Type 0
DownNote k c came d = Down k c (end_of k d.0) came d.1

settled_down : (k : Key) (c : Conn) (came : ℕ) (d : Note × Conn) → DownNote k c came d → DownNote k c came (settled_note d)
settled_down k c came d h = down_calm k c d.1 (settle d.1) (end_of k d.0) came h (settle_calm k d.1)

-- ---- what comes

pub queued_down : (k : Key) (c : Conn) (t : Tunnel) (from : From) (n : ℕ) (packet : List ℕ) → DownNote k c (past k from n) (settled_note (queued c t from n packet))
queued_down k c t from n packet =
    let w : Waiting = record { what = Packet from n packet; capsule = capsule_text (datagram packet); framed = 0 } in
    let more = waits_more k (flows k c) t.id w c.tunnels in
    settled_down k c (past k from n) (queued c t from n packet)
    (if_both (DownNote k c (past k from n)) (nat_le most_packets (packets t) || nat_lt most_waiting (waiting_bytes c + length (capsule_text (datagram packet)))) _ _
    (record { down = omega arith; once = λ h. h; number = refl })
    (record { down = omega (arith, more); once = λ h. h; number = refl }))

pub passed_down : (k : Key) (c : Conn) (t : Tunnel) (from : From) (n : ℕ) (o : Option (List ℕ)) → DownNote k c (past k from n) (passed_on c t from n o)
passed_down k c t from n None = record { down = omega arith; once = λ h. h; number = refl }
passed_down k c t from n (Some packet) = queued_down k c t from n packet

-- ---- what is framed

-- a tunnel that is found in the ring is one of them
in_filter : (p : Tunnel → Bool) (ts : List Tunnel) (t : Tunnel) → In t (filter p ts) → In t ts
in_filter p [] t h = h
in_filter p (u ∷ ts) t h = by_test (in_filter p ts t) (p u) h where
  by_test : (In t (filter p ts) → In t ts) → (b : Bool) → In t (cond b (u ∷ filter p ts) (filter p ts)) → In t (u ∷ ts)
  by_test rest true (inl same) = inl same
  by_test rest true (inr more) = inr (rest more)
  by_test rest false more = inr (rest more)

in_both : (xs ys : List Tunnel) (t : Tunnel) → In t (xs ++ ys) → In t xs ⊎ In t ys
in_both [] ys t h = inr h
in_both (x ∷ xs) ys t (inl same) = inl (inl same)
in_both (x ∷ xs) ys t (inr more) = elim (in_both xs ys t more) [ inl a ↦ inl (inr a) | inr b ↦ inr b ]

in_ring : (from : ℕ) (ts : List Tunnel) (t : Tunnel) → In t (tunnels_from from ts) → In t ts
in_ring from ts t h =
    elim (in_both (filter (λ (t : Tunnel). nat_le from t.id) ts) (filter (λ (t : Tunnel). nat_lt t.id from) ts) t h) [
      | inl a ↦ in_filter (λ (t : Tunnel). nat_le from t.id) ts t a
      | inr b ↦ in_filter (λ (t : Tunnel). nat_lt t.id from) ts t b
    ]

next_by : (b : Bool) (c : Conn) (t : Tunnel) → cond b (find (can_frame c) (tunnels_from c.next_tunnel c.tunnels)) None ≡ Some t → In t c.tunnels
next_by true c t e = in_ring c.next_tunnel c.tunnels t (found_in (can_frame c) (tunnels_from c.next_tunnel c.tunnels) t e).1
next_by false c t e = absurd cc

pub next_in : (c : Conn) (t : Tunnel) → next_framed c ≡ Some t → In t c.tunnels
next_in c t e = next_by (can_go_on c) c t e

-- where each tunnel has its stream for itself, the one that is framed is the one that changes
set_by : (k : Key) (f : ℕ → ℕ) (b : Bool) (t u : Tunnel) (ws : List Waiting) (ts : List Tunnel) → (u.stream == t.stream) ≡ b → Alone (u ∷ ts) → In t (u ∷ ts)
    → (In t ts → in_tunnels k f (set_waiting t.stream ws ts) + waits_in k t.waiting ≡ in_tunnels k f ts + waits_in k ws)
    → in_tunnels k f (cond b (record u { waiting = ws } ∷ ts) (u ∷ set_waiting t.stream ws ts)) + waits_in k t.waiting ≡ in_tunnels k f (u ∷ ts) + waits_in k ws
set_by k f true t u ws ts is alone (inl same) rest = let one = ap (λ (t : Tunnel). waits_in k t.waiting) same in omega (arith, one)
set_by k f true t u ws ts is alone (inr more) rest =
    let there : has_on ts t.stream ≡ true = in_has ts t more in
    let here : has_on ts u.stream ≡ false = alone.0 in
    let same : u.stream ≡ t.stream = eqb-true u.stream t.stream is in
    let both : has_on ts u.stream ≡ true = ap (has_on ts) same ∙ there in
    absurd cc
set_by k f false t u ws ts is alone (inl same) rest =
    let one : (u.stream == t.stream) ≡ true = ap (λ (x : Tunnel). x.stream == t.stream) same ∙ itself t.stream in
    absurd cc
set_by k f false t u ws ts is alone (inr more) rest = let one = rest more in omega (arith, one)

set_down : (k : Key) (f : ℕ → ℕ) (t : Tunnel) (ws : List Waiting) (ts : List Tunnel) → Alone ts → In t ts → in_tunnels k f (set_waiting t.stream ws ts) + waits_in k t.waiting ≡ in_tunnels k f ts + waits_in k ws
set_down k f t ws [] alone h = absurd h
set_down k f t ws (u ∷ ts) alone h = set_by k f (u.stream == t.stream) t u ws ts refl alone h (λ more. set_down k f t ws ts alone.1 more)

whole_end : (k : Key) (t : Tunnel) (w : Waiting) (what : What) → end_of k (whole_note t w what) ≡ in_what k what
whole_end k t w (Packet from n packet) = refl
whole_end k t w Value = refl

framed_down_by : (k : Key) (c : Conn) (t : Tunnel) (w : Waiting) (ws : List Waiting) (count : ℕ) → Alone c.tunnels → In t c.tunnels → t.waiting ≡ w ∷ ws → DownNote k c 0 (framed_by c t w ws count)
framed_down_by k c t w ws count alone among is =
    let put = framing c.front t.stream (take count (drop w.framed w.capsule)) in
    let mid = putting c put in
    let calm = putting_calm k c put in
    let old = calm_conn k c mid calm in
    let waiting = ap (λ (l : List Waiting). waits_in k l) is in
    let part : Waiting = record w { framed = w.framed + count } in
    let whole = set_down k (flows k mid) t ws c.tunnels alone among in
    let some = set_down k (flows k mid) t (part ∷ ws) c.tunnels alone among in
    let said = whole_end k t w w.what in
    if_both (DownNote k c 0) (nat_le (length w.capsule) (w.framed + count)) _ _
    (record { down = omega (arith, old, waiting, whole, said); once = calm_once k c mid calm; number = refl })
    (record { down = omega (arith, old, waiting, some); once = calm_once k c mid calm; number = refl })

abbrev DownFramed : Key → Conn → Option (Note × Conn) → Type 0
DownFramed k c None = Unit {0}
DownFramed k c (Some d) = DownNote k c 0 d

front_framed : (k : Key) (c : Conn) (t : Tunnel) (ws : List Waiting) → Alone c.tunnels → In t c.tunnels → t.waiting ≡ ws → DownFramed k c (framed_front c t ws)
front_framed k c t [] alone among is = tt
front_framed k c t (w ∷ ws) alone among is = framed_down_by k c t w ws (frame_size c.front t.stream (length (drop w.framed w.capsule))) alone among is

next_framed_down : (k : Key) (c : Conn) (o : Option Tunnel) → Alone c.tunnels → next_framed c ≡ o → DownFramed k c (option_map settled_note (option_and_then (λ (t : Tunnel). framed_front c t t.waiting) o))
next_framed_down k c None alone is = tt
next_framed_down k c (Some t) alone is = settle_some (framed_front c t t.waiting) (front_framed k c t t.waiting alone (next_in c t is) refl) where
  settle_some : (o : Option (Note × Conn)) → DownFramed k c o → DownFramed k c (option_map settled_note o)
  settle_some None h = tt
  settle_some (Some d) h = settled_down k c 0 d h

pub framed_down : (k : Key) (c : Conn) (d : Note × Conn) → Alone c.tunnels → framed c ≡ Some d → DownNote k c 0 d
framed_down k c d alone is = subst (DownFramed k c) is (next_framed_down k c (next_framed c) alone refl)

-- ---- other steps, which bring nothing

pub wrote_calm : (k : Key) (c : Conn) (count : ℕ) → Calm k c (wrote c count).1
wrote_calm k c count =
    let mid : Conn = record c { given = c.given + count } in
    calm_on k c mid (settle mid) (record { less = λ id. omega arith; tunnels = λ f. omega arith; number = refl }) (settle_calm k mid)

ended_calm : (k : Key) (c : Conn) (e : End) → Calm k c (record c { ending = Some e; is_finished = true })
ended_calm k c e = record { less = λ id. omega arith; tunnels = λ f. omega arith; number = refl }

finish_calm : (k : Key) (c : Conn) (f : Front) (inside : Bool) → Calm k c (finish_by (record c { is_finished = true }) f inside)
finish_calm k c (Head []) inside = ended_calm k c end.Done
finish_calm k c (Head (b ∷ bytes)) inside = ended_calm k c end.Truncated
finish_calm k c OverHttp1 inside = record { less = λ id. close_less id (0 == id); tunnels = λ f. omega arith; number = refl } where
  close_less : (id : ℕ) (b : Bool) → cond b 0 0 + asked_on k id c.due + left_on k id c.ending c.streams ≤ flows k c id
  close_less id true = omega arith
  close_less id false = omega arith
finish_calm k c (OverHttp2 h) inside = record { less = λ id. omega arith; tunnels = λ f. omega arith; number = refl }

pub finished_calm : (k : Key) (c : Conn) (inside : Bool) → Calm k c (finished c inside).1
finished_calm k c inside =
    let mid = finish_by (record c { is_finished = true }) c.front inside in
    calm_on k c mid (settle mid) (finish_calm k c c.front inside) (settle_calm k mid)

pub given_up_calm : (k : Key) (c : Conn) (reason : End) → Calm k c (given_up reason c)
given_up_calm k c reason = record { less = λ id. omega arith; tunnels = λ f. omega arith; number = refl }

pub port_failed_calm : (k : Key) (c : Conn) (t : Tunnel) → Calm k c (port_failed c t)
port_failed_calm k c t = record { less = λ id. close_less id (t.stream == id); tunnels = λ f. omega arith; number = refl } where
  close_less : (id : ℕ) (b : Bool) → cond b 0 0 + asked_on k id c.due + left_on k id c.ending c.streams ≤ flows k c id
  close_less id true = omega arith
  close_less id false = omega arith
