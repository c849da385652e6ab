-- How often a payload is on its way, or may still be read: in what is due and what waits in the tunnels of a connection.
use Rattle.std.proofs.Common.{◌≡◌, ◌≤◌, ◌+◌, ℕ, Bool, true, false, cond, not, List, [], ◌∷◌, ◌++◌, nat_le, Option, Some, None, refl, subst, ap, ◌∙◌, arith}
use Rattle.std.specs.Prelude.{find, ◌==◌}
use Rattle.std.specs.List.{filter}
use Rattle.mq_capsule.specs.Laws.{IsReadable, IsReadOnce}
use Rattle.mq_talk.specs.declared.note.End.{End}
use Rattle.mq_talk.specs.declared.note.From.{From}
use Rattle.mq_talk.specs.declared.note.From.TheVariants as source
use Rattle.mq_talk.specs.declared.note.Note.{Note}
use Rattle.mq_talk.specs.declared.note.Note.TheVariants as note
use Rattle.mq_machine.specs.declared.act.Act.TheVariants as act
use Rattle.mq_machine.specs.declared.act.StreamAct.{StreamAct}
use Rattle.mq_machine.specs.declared.act.StreamAct.TheVariants as stream
use Rattle.mq_machine.specs.declared.act.Due.{Due}
use Rattle.mq_machine.specs.declared.act.Due.TheVariants as due
use Rattle.mq_machine.specs.Done.{is_on, waits, without, without_tunnel}
use Rattle.mq_machine.specs.Putting.{Putting, first_of, putting}
use Rattle.mq_machine.specs.Reading.{has_values, payload_count}
use Rattle.mq_machine.specs.Settle.{spending, passing, is_given_up, updating, settled, settle}
use Rattle.mq_machine.specs.State.{Conn, Stream, Tunnel, Waiting, What, Packet, Value, owed}
use Rattle.mq_play.proofs.Lists.{if_both, some_same}
use Rattle.mq_machine.proofs.Lawful.Lists.{either_way}
use Rattle.mq_runs.specs.Ends.{is_same}
use Rattle.mq_runs.proofs.Sums.{total, total_append, total_less, total_filter}

-- a payload, by its origin and number; and that each data stream says its items in one way
pub record Key : Type 0 where
  pub from : From
  pub number : ℕ
  pub readable : IsReadable
  pub once : IsReadOnce
  -- whether it is counted to its end, or only till it is pushed, or waits in a tunnel
  pub to_the_end : Bool

-- 1 for the payload, and 0 for any other
abbrev pub hit : Key → From → ℕ → ℕ
hit k from m = cond (is_same from k.from) (cond (m == k.number) 1 0) 0

-- 1 for the payload where it is counted to its end
abbrev pub past : Key → From → ℕ → ℕ
past k from m = cond k.to_the_end (hit k from m) 0

pub past_less : (k : Key) (from : From) (m : ℕ) → past k from m ≤ hit k from m
past_less k from m = by_test k.to_the_end where
  by_test : (b : Bool) → cond b (hit k from m) 0 ≤ hit k from m
  by_test true = omega arith
  by_test false = omega arith

-- an act is asked with the payload of this number
abbrev pub asks : Key → StreamAct → ℕ
asks k (stream.Payload m payload) = cond (m == k.number) 1 0
asks k (stream.Packet m packet flow) = cond (m == k.number) 1 0
asks k (stream.Push m to packet) = cond (m == k.number) 1 0
asks k (stream.Drop m cause) = cond (m == k.number) 1 0
asks k (stream.Assign asked) = 0
asks k (stream.Advertise ranges) = 0
asks k (stream.Close why) = 0

-- of this stream
abbrev pub due_asks : Key → ℕ → Due → ℕ
due_asks k id (due.Do (act.OfStream on a)) = cond (on == id) (asks k a) 0
due_asks k id (due.Do (act.Bind on goal)) = 0
due_asks k id (due.Do (act.Open on goal)) = 0
due_asks k id (due.Do (act.Refuse on status rule)) = 0
due_asks k id (due.Do (act.Reset on code)) = 0
due_asks k id (due.Spend on size) = 0
due_asks k id (due.Fault code) = 0

abbrev pub asked_on : Key → ℕ → List Due → ℕ
asked_on k id ds = total (due_asks k id) ds

-- how many payloads a data stream said so far
abbrev pub count_of : Key → Stream → ℕ
count_of k s = payload_count (k.readable (has_values s.goal) s.bytes).0

-- the payload of this number may still be read
abbrev pub left_of : Key → ℕ → Stream → ℕ
left_of k id s = cond (s.id == id) (cond (nat_le (count_of k s) k.number) 1 0) 0

abbrev pub left_on : Key → ℕ → Option End → List Stream → ℕ
left_on k id None ss = total (left_of k id) ss
left_on k id (Some why) ss = 0

-- how often it is due on this stream, or may be
abbrev pub flows : Key → Conn → ℕ → ℕ
flows k c id = asked_on k id c.due + left_on k id c.ending c.streams

-- once at most
abbrev pub FlowsOnce : Key → Conn → Type 0
FlowsOnce k c = (id : ℕ) → flows k c id ≤ 1

abbrev pub in_what : Key → What → ℕ
in_what k (Packet from m packet) = past k from m
in_what k Value = 0

abbrev pub waits_in : Key → List Waiting → ℕ
waits_in k ws = total (λ (w : Waiting). in_what k w.what) ws

abbrev pub is_own : Key → ℕ → Bool
is_own k tunnel = is_same (source.Tunnel tunnel) k.from

-- what waits in these tunnels, and what is due on their streams
abbrev pub in_tunnel : Key → (ℕ → ℕ) → Tunnel → ℕ
in_tunnel k f t = waits_in k t.waiting + cond (is_own k t.id) (f t.stream) 0

abbrev pub in_tunnels : Key → (ℕ → ℕ) → List Tunnel → ℕ
in_tunnels k f ts = total (in_tunnel k f) ts

abbrev pub in_conn : Key → Conn → ℕ
in_conn k c = in_tunnels k (flows k c) c.tunnels

abbrev pub end_of : Key → Note → ℕ
end_of k (note.Sent from m packet) = past k from m
end_of k (note.Delivered from m to packet) = past k from m
end_of k (note.Dropped from m cause) = past k from m
end_of k said = 0

-- ---- steps that bring nothing

-- what flows is no more, nor what waits
pub record Calm (k : Key) (c d : Conn) : Type 0 where
  pub less : (id : ℕ) → flows k d id ≤ flows k c id
  pub tunnels : (f : ℕ → ℕ) → in_tunnels k f d.tunnels ≤ in_tunnels k f c.tunnels
  pub number : d.number ≡ c.number

pub calm_same : (k : Key) (c : Conn) → Calm k c c
calm_same k c = record { less = λ id. omega arith; tunnels = λ f. omega arith; number = refl }

pub calm_on : (k : Key) (a b c : Conn) → Calm k a b → Calm k b c → Calm k a c
calm_on k a b c x y = record {
  less = λ id. let p = x.less id in let q = y.less id in omega (arith, p, q);
  tunnels = λ f. let p = x.tunnels f in let q = y.tunnels f in omega (arith, p, q);
  number = y.number ∙ x.number;
}

own_less : (b : Bool) (m n : ℕ) → m ≤ n → cond b m 0 ≤ cond b n 0
own_less true m n h = h
own_less false m n h = omega arith

pub tunnels_less : (k : Key) (f g : ℕ → ℕ) (ts : List Tunnel) → ((id : ℕ) → f id ≤ g id) → in_tunnels k f ts ≤ in_tunnels k g ts
tunnels_less k f g ts h =
    total_less (in_tunnel k f) (in_tunnel k g) ts (λ t. let here = own_less (is_own k t.id) (f t.stream) (g t.stream) (h t.stream) in omega (arith, here))

pub calm_conn : (k : Key) (c d : Conn) → Calm k c d → in_conn k d ≤ in_conn k c
calm_conn k c d x =
    let one = x.tunnels (flows k d) in
    let two = tunnels_less k (flows k d) (flows k c) c.tunnels x.less in
    omega (arith, one, two)

pub calm_once : (k : Key) (c d : Conn) → Calm k c d → FlowsOnce k c → FlowsOnce k d
calm_once k c d x h id = let one = x.less id in let two = h id in omega (arith, one, two)

left_ending : (k : Key) (id : ℕ) (e f : Option End) (ss : List Stream) → left_on k id (first_of e f) ss ≤ left_on k id e ss
left_ending k id None None ss = omega arith
left_ending k id None (Some why) ss = omega arith
left_ending k id (Some why) None ss = omega arith
left_ending k id (Some why) (Some other) ss = omega arith

pub putting_calm : (k : Key) (c : Conn) (put : Putting) → Calm k c (putting c put)
putting_calm k c put = record { less = λ id. let one = left_ending k id c.ending put.ending c.streams in omega (arith, one); tunnels = λ f. omega arith; number = refl }

-- these dues in place of its own, where they ask for no more
pub due_calm : (k : Key) (c : Conn) (ds : List Due) → ((id : ℕ) → asked_on k id ds ≤ asked_on k id c.due) → Calm k c (record c { due = ds })
due_calm k c ds h = record { less = λ id. let one = h id in omega (arith, one); tunnels = λ f. omega arith; number = refl }

pub passing_calm : (k : Key) (ds : List Due) (c : Conn) → ((id : ℕ) → asked_on k id ds ≤ asked_on k id c.due) → Calm k c (passing ds c)
passing_calm k [] c h = due_calm k c [] h
passing_calm k (due.Do a ∷ rest) c h = due_calm k c (due.Do a ∷ rest) h
passing_calm k (due.Spend id size ∷ rest) c h =
    let mid : Conn = record c { front = spending c.front id size } in
    let now = passing_calm k rest mid (λ id. let one = h id in omega (arith, one)) in
    record { less = now.less; tunnels = now.tunnels; number = now.number }
passing_calm k (due.Fault code ∷ rest) c h = record { less = λ id. omega arith; tunnels = λ f. omega arith; number = refl }

pub settled_calm : (k : Key) (c : Conn) → Calm k c (settled c)
settled_calm k c = if_both (λ d. Calm k c d) (is_given_up c.ending) c (putting c (updating c.front (owed c))) (calm_same k c) (putting_calm k c (updating c.front (owed c)))

pub settle_calm : (k : Key) (c : Conn) → Calm k c (settle c)
settle_calm k c = calm_on k c (passing c.due c) (settle c) (passing_calm k c.due c (λ id. omega arith)) (settled_calm k (passing c.due c))

left_filter : (k : Key) (id : ℕ) (e : Option End) (p : Stream → Bool) (ss : List Stream) → left_on k id e (filter p ss) ≤ left_on k id e ss
left_filter k id None p ss = total_filter (left_of k id) p ss
left_filter k id (Some why) p ss = omega arith

pub without_calm : (k : Key) (id : ℕ) (c : Conn) → Calm k c (without id c)
without_calm k id c = record {
  less = λ on. let one = total_filter (due_asks k on) (λ d. not (is_on id d)) c.due in let two = left_filter k on c.ending (λ (s : Stream). not (s.id == id)) c.streams in omega (arith, one, two);
  tunnels = λ f. omega arith;
  number = refl;
}

pub without_tunnel_calm : (k : Key) (id : ℕ) (c : Conn) → Calm k c (without_tunnel id c)
without_tunnel_calm k id c = record { less = λ on. omega arith; tunnels = λ f. total_filter (in_tunnel k f) (λ (t : Tunnel). not (t.id == id)) c.tunnels; number = refl }

waits_by : (k : Key) (f : ℕ → ℕ) (b : Bool) (x : ℕ) (t u : Tunnel) (ts us : List Tunnel) → in_tunnel k f u ≤ in_tunnel k f t + x → in_tunnels k f us ≤ in_tunnels k f ts + x
    → in_tunnels k f (cond b (u ∷ ts) (t ∷ us)) ≤ in_tunnels k f (t ∷ ts) + x
waits_by k f true x t u ts us h l = omega (arith, h)
waits_by k f false x t u ts us h l = omega (arith, l)

-- something more waits in a tunnel
pub waits_more : (k : Key) (f : ℕ → ℕ) (id : ℕ) (w : Waiting) (ts : List Tunnel) → in_tunnels k f (waits id w ts) ≤ in_tunnels k f ts + in_what k w.what
waits_more k f id w [] = omega arith
waits_more k f id w (t ∷ ts) =
    let more = total_append (λ (w : Waiting). in_what k w.what) t.waiting (w ∷ []) in
    waits_by k f (t.id == id) (in_what k w.what) t (record t { waiting = t.waiting ++ w ∷ [] }) ts (waits id w ts) (omega (arith, more)) (waits_more k f id w ts)

-- ---- steps that end or move it

-- the ends, or what went elsewhere, and what is left are no more than there was, with what came
pub record Down (k : Key) (c : Conn) (gone came : ℕ) (d : Conn) : Type 0 where
  pub down : gone + in_conn k d ≤ in_conn k c + came
  pub once : FlowsOnce k c → FlowsOnce k d
  pub number : d.number ≡ c.number

pub calm_down : (k : Key) (c d : Conn) → Calm k c d → Down k c 0 0 d
calm_down k c d x = let one = calm_conn k c d x in record { down = omega (arith, one); once = calm_once k c d x; number = x.number }

pub down_calm : (k : Key) (c d e : Conn) (gone came : ℕ) → Down k c gone came d → Calm k d e → Down k c gone came e
down_calm k c d e gone came x y =
    let one = x.down in
    let two = calm_conn k d e y in
    record { down = omega (arith, one, two); once = λ h. calm_once k d e y (x.once h); number = y.number ∙ x.number }

pub calm_then : (k : Key) (c d e : Conn) (gone came : ℕ) → Calm k c d → Down k d gone came e → Down k c gone came e
calm_then k c d e gone came x y =
    let one = y.down in
    let two = calm_conn k c d x in
    record { down = omega (arith, one, two); once = λ h. y.once (calm_once k c d x h); number = y.number ∙ x.number }

pub own_sum : (b : Bool) (x m n : ℕ) → x + m ≤ n → cond b x 0 + cond b m 0 ≤ cond b n 0
own_sum true x m n h = h
own_sum false x m n h = omega arith

take_by : (k : Key) (f g : ℕ → ℕ) (b : Bool) (on x : ℕ) (t u : Tunnel) (ts : List Tunnel) → (u.stream == on) ≡ b → cond b (Some u) (find (λ (t : Tunnel). t.stream == on) ts) ≡ Some t
    → ((id : ℕ) → cond (on == id) x 0 + f id ≤ g id) → (find (λ (t : Tunnel). t.stream == on) ts ≡ Some t → cond (is_own k t.id) x 0 + in_tunnels k f ts ≤ in_tunnels k g ts)
    → cond (is_own k t.id) x 0 + in_tunnels k f (u ∷ ts) ≤ in_tunnels k g (u ∷ ts)
take_by k f g true on x t u ts is e h rest =
    let yes : (on == u.stream) ≡ true = either_way on u.stream ∙ is in
    let here = own_sum (is_own k u.id) x (f u.stream) (g u.stream) (subst (λ b. cond b x 0 + f u.stream ≤ g u.stream) yes (h u.stream)) in
    let others = tunnels_less k f g ts (λ id. let one = h id in omega (arith, one)) in
    let same = ap (λ (t : Tunnel). cond (is_own k t.id) x 0) (some_same e) in
    omega (arith, here, others, same)
take_by k f g false on x t u ts is e h rest =
    let here = own_less (is_own k u.id) (f u.stream) (g u.stream) (let one = h u.stream in omega (arith, one)) in
    let more = rest e in
    omega (arith, here, more)

-- what is due on the stream of a tunnel is taken from it
pub take_one : (k : Key) (f g : ℕ → ℕ) (on x : ℕ) (t : Tunnel) (ts : List Tunnel) → find (λ (t : Tunnel). t.stream == on) ts ≡ Some t → ((id : ℕ) → cond (on == id) x 0 + f id ≤ g id)
    → cond (is_own k t.id) x 0 + in_tunnels k f ts ≤ in_tunnels k g ts
take_one k f g on x t [] e h = absurd cc
take_one k f g on x t (u ∷ ts) e h = take_by k f g (u.stream == on) on x t u ts refl e h (λ e. take_one k f g on x t ts e h)

-- the first act that is due is done
pub front_flows : (k : Key) (c : Conn) (on : ℕ) (a : StreamAct) (rest : List Due) (id : ℕ) → c.due ≡ due.Do (act.OfStream on a) ∷ rest → cond (on == id) (asks k a) 0 + flows k (record c { due = rest }) id ≡ flows k c id
front_flows k c on a rest id e = let same = ap (asked_on k id) e in omega (arith, same)

pub front_calm : (k : Key) (c : Conn) (d : Due) (rest : List Due) → c.due ≡ d ∷ rest → Calm k c (record c { due = rest })
front_calm k c d rest e = due_calm k c rest (λ id. let same = ap (asked_on k id) e in omega (arith, same))

-- the payload of the first act is gone
pub front_down : (k : Key) (c : Conn) (on : ℕ) (a : StreamAct) (rest : List Due) (t : Tunnel) → c.due ≡ due.Do (act.OfStream on a) ∷ rest → find (λ (t : Tunnel). t.stream == on) c.tunnels ≡ Some t
    → Down k c (cond (is_own k t.id) (asks k a) 0) 0 (record c { due = rest })
front_down k c on a rest t e found =
    let calm = front_calm k c (due.Do (act.OfStream on a)) rest e in
    let one = take_one k (flows k (record c { due = rest })) (flows k c) on (asks k a) t c.tunnels found (λ id. let same = front_flows k c on a rest id e in omega (arith, same)) in
    record { down = omega (arith, one); once = calm_once k c (record c { due = rest }) calm; number = refl }
