-- In a run a live tunnel has what came to wait there, but for what it delivered, in order.
use Rattle.std.proofs.Common.{◌≡◌, ◌≤◌, ◌+◌, ℕ, Bool, true, false, cond, not, List, [], ◌∷◌, ◌++◌, Option, Some, None, option_map, refl, sym, subst, ap, ◌∙◌, arith, inl, inr, append-nil}
use Rattle.std.specs.Prelude.{find, ◌==◌}
use Rattle.std.specs.List.{filter, flat_map}
use Rattle.std.proofs.lemmas.Bool.{eqb-true}
use Rattle.std.proofs.lemmas.List.Concat.{flat_map-append}
use Rattle.mq_addr.specs.declared.kind.Kind.{Kind}
use Rattle.mq_addr.specs.declared.kind.Kind.TheVariants as kind
use Rattle.mq_addr.specs.declared.range.Range.{Range}
use Rattle.mq_talk.specs.declared.note.From.{From}
use Rattle.mq_talk.specs.declared.note.From.TheVariants as source
use Rattle.mq_talk.specs.declared.note.Note.{Note}
use Rattle.mq_talk.specs.declared.note.Note.TheVariants as note
use Rattle.mq_talk.specs.declared.place.Parcel.{Parcel}
use Rattle.mq_talk.specs.declared.place.Place.{Place}
use Rattle.mq_talk.specs.declared.place.Place.TheVariants as place
use Rattle.mq_machine.specs.declared.setup.Setup.{Setup}
use Rattle.mq_machine.specs.Done.{done, value, waits, first_waiting}
use Rattle.mq_machine.specs.Lawful.{Alone, has_on}
use Rattle.mq_machine.specs.Shared.{ports_after}
use Rattle.mq_machine.specs.State.{Conn, new_conn, Tunnel, Waiting, What, Packet, Value, Port, Offer, Held, Worker, Shared, kind_of, tunnel_of}
use Rattle.mq_machine.specs.Steps.{failed, port_failed, passed_on, queued, set_waiting, settled_note, whole_note}
use Rattle.mq_machine.specs.Turn.{source_of, with_conn, over_or, write_count, Seat, Offers, Inbox, Of, SeatNext, accepted, popped, came_to, tunnel_in, has_tunnel, replace}
use Rattle.mq_machine.specs.Want.{Want, Over, Answer, want_of}
use Rattle.mq_machine.specs.Words.{onward}
use Rattle.mq_machine.proofs.Lawful.Lists.{In, in_has, itself}
use Rattle.mq_play.proofs.Lists.{some_same}
use Rattle.mq_runs.specs.Queues.{what_names, waiting_names, queued_in, delivered_in}
use Rattle.mq_runs.proofs.Facts.{Tells}
use Rattle.mq_runs.proofs.Kept.{cases_of}
use Rattle.mq_runs.proofs.Nexts.{acts_tell}
use Rattle.mq_runs.proofs.Onlys.{Changed, Removed, change_flat, remove_flat, none_flat, changed_first, changed_later, replace_changed, replace_removed, among_changed}
use Rattle.mq_runs.proofs.Ranks.{Among, found_among, among_less}
use Rattle.mq_runs.proofs.Shapes.{Answered, done_tunnels, Framed, framed_tunnels, Comes, queued_tunnels, wrote_tunnels, finished_tunnels, took_tunnels}
use Rattle.mq_runs.proofs.Sums.{total}
use Rattle.mq_runs.proofs.Walks.{HandlesHeld, try_walk, map_was, found_passes}
use Rattle.mq_runs.proofs.Workers.{numbered, is_numbered, FoundAmong, among_in}

abbrev Names : Type 0
Names = List (From × ℕ)

none_both : (b : Bool) → ◌≡◌ {A = List (From × ℕ)} (cond b [] []) []
none_both true = refl
none_both false = refl

cond_none : (b : Bool) (l : List (From × ℕ)) → ◌≡◌ {A = ℕ} (cond b 1 0) 0 → cond b l [] ≡ []
cond_none true l e = absurd (omega (arith, e))
cond_none false l e = refl

cond_step : (b : Bool) (x more rest : List (From × ℕ)) → x ≡ more ++ rest → cond b x [] ++ [] ≡ cond b more [] ++ cond b rest []
cond_step true x more rest is = append-nil x ∙ is
cond_step false x more rest is = refl

cond_more : (b : Bool) (x more new : List (From × ℕ)) → x ++ more ≡ new → cond b x [] ++ cond b more [] ≡ cond b new []
cond_more true x more new is = is
cond_more false x more new is = refl

module _ (target : ℕ) where
  abbrev pub has : Tunnel → ℕ
  has t = cond (t.id == target) 1 0

  -- what waits in the tunnel that is meant
  abbrev pub in_it : Tunnel → List (From × ℕ)
  in_it t = cond (t.id == target) (waiting_names t.waiting) []

  pub none_in : (t : Tunnel) → has t ≡ 0 → in_it t ≡ []
  none_in t e = cond_none (t.id == target) (waiting_names t.waiting) e

  abbrev pub live : List Tunnel → ℕ
  live ts = total has ts

  abbrev pub in_all : List Tunnel → List (From × ℕ)
  in_all ts = flat_map in_it ts

  pub record Calm (said : Note) : Type 0 where
    pub queued : queued_in target said ≡ []
    pub delivered : delivered_in target said ≡ []

  -- What a step does to these tunnels is what its note says of the one that is meant, as long as it is live.
  pub record Does (ts : List Tunnel) (said : Note) (us : List Tunnel) : Type 0 where
    pub only : live ts ≡ 0 → (queued_in target said ≡ []) × (delivered_in target said ≡ [])
    pub goes : live ts ≤ 1 → 1 ≤ live us → in_all ts ++ queued_in target said ≡ delivered_in target said ++ in_all us

  pub calm_does : (ts us : List Tunnel) (said : Note) → Calm said → (1 ≤ live us → in_all ts ≡ in_all us) → Does ts said us
  calm_does ts us said calm same = record {
    only = λ none. (calm.queued, calm.delivered);
    goes = λ few some. ap (λ (l : List (From × ℕ)). in_all ts ++ l) calm.queued ∙ (append-nil (in_all ts) ∙ (same some ∙ sym (ap (λ (l : List (From × ℕ)). l ++ in_all us) calm.delivered)));
  }

  -- ---- an answer

  valued_it : (t : Tunnel) (kind : ℕ) (bytes : List ℕ) → in_it (record t { waiting = t.waiting ++ value kind bytes ∷ [] }) ≡ in_it t
  valued_it t kind bytes =
      let more : waiting_names (t.waiting ++ value kind bytes ∷ []) ≡ waiting_names t.waiting ++ [] = flat_map-append (λ (w : Waiting). what_names w.what) t.waiting (value kind bytes ∷ []) in
      ap (λ (l : List (From × ℕ)). cond (t.id == target) l []) (more ∙ append-nil (waiting_names t.waiting))

  valued_by : (b : Bool) (id kind : ℕ) (bytes : List ℕ) (t : Tunnel) (ts : List Tunnel) → in_all (waits id (value kind bytes) ts) ≡ in_all ts
      → in_all (cond b (record t { waiting = t.waiting ++ value kind bytes ∷ [] } ∷ ts) (t ∷ waits id (value kind bytes) ts)) ≡ in_all (t ∷ ts)
  valued_by true id kind bytes t ts rest = ap (λ (l : List (From × ℕ)). l ++ in_all ts) (valued_it t kind bytes)
  valued_by false id kind bytes t ts rest = ap (λ (l : List (From × ℕ)). in_it t ++ l) rest

  valued_all : (id kind : ℕ) (bytes : List ℕ) (ts : List Tunnel) → in_all (waits id (value kind bytes) ts) ≡ in_all ts
  valued_all id kind bytes [] = refl
  valued_all id kind bytes (t ∷ ts) = valued_by (t.id == id) id kind bytes t ts (valued_all id kind bytes ts)

  -- where it is the one that closes, none is live then
  closed_by : (b : Bool) (t : Tunnel) (ts us : List Tunnel) → (t.id == target) ≡ b → live us ≡ 0 → live (cond (not b) (t ∷ us) us) ≡ 0
  closed_by true t ts us is rest = rest
  closed_by false t ts us is rest = rw is (omega (arith, rest))

  closed_live : (ts : List Tunnel) → live (filter (λ (t : Tunnel). not (t.id == target)) ts) ≡ 0
  closed_live [] = refl
  closed_live (t ∷ ts) = closed_by (t.id == target) t ts (filter (λ (t : Tunnel). not (t.id == target)) ts) refl (closed_live ts)

  other_by : (b : Bool) (id : ℕ) (t : Tunnel) (ts us : List Tunnel) → (id == target) ≡ false → (t.id == id) ≡ b → in_all us ≡ in_all ts → in_all (cond (not b) (t ∷ us) us) ≡ in_all (t ∷ ts)
  other_by true id t ts us other is rest =
      let same : t.id ≡ id = eqb-true t.id id is in
      let no : (t.id == target) ≡ false = ap (λ i. i == target) same ∙ other in
      rest ∙ sym (ap (λ b. cond b (waiting_names t.waiting) [] ++ in_all ts) no)
  other_by false id t ts us other is rest = ap (λ (l : List (From × ℕ)). in_it t ++ l) rest

  other_all : (id : ℕ) (ts : List Tunnel) → (id == target) ≡ false → in_all (filter (λ (t : Tunnel). not (t.id == id)) ts) ≡ in_all ts
  other_all id [] other = refl
  other_all id (t ∷ ts) other = other_by (t.id == id) id t ts (filter (λ (t : Tunnel). not (t.id == id)) ts) other refl (other_all id ts other)

  closed_all : (id : ℕ) (ts : List Tunnel) (b : Bool) → (id == target) ≡ b → 1 ≤ live (filter (λ (t : Tunnel). not (t.id == id)) ts) → in_all ts ≡ in_all (filter (λ (t : Tunnel). not (t.id == id)) ts)
  closed_all id ts true is some =
      let none = closed_live ts in
      let same = ap (λ i. live (filter (λ (t : Tunnel). not (t.id == i)) ts)) (eqb-true id target is) in
      absurd (omega (arith, none, same, some))
  closed_all id ts false is some = sym (other_all id ts is)

  first_none : (k : Kind) (routes : List Range) → waiting_names (first_waiting k routes) ≡ []
  first_none kind.Udp routes = refl
  first_none kind.Ip routes = refl

  answered_all : (ts us : List Tunnel) (answer : Answer) → Answered ts answer us → 1 ≤ live us → in_all ts ≡ in_all us
  answered_all ts us answer (inl same) some = sym (ap in_all same)
  answered_all ts us answer (inr (inl x)) some = closed_all x.id ts (x.id == target) refl (subst (λ (us : List Tunnel). 1 ≤ live us) x.is some) ∙ sym (ap in_all x.is)
  answered_all ts us answer (inr (inr (inl x))) some = sym (ap in_all x.is ∙ valued_all x.id x.kind x.bytes ts)
  answered_all ts us answer (inr (inr (inr x))) some =
      let t : Tunnel = record { id = x.id; stream = x.on; goal = x.goal; waiting = first_waiting (kind_of x.goal) x.routes } in
      let none : in_it t ≡ [] = ap (λ (l : List (From × ℕ)). cond (x.id == target) l []) (first_none (kind_of x.goal) x.routes) ∙ none_both (x.id == target) in
      sym (ap in_all x.is ∙ (flat_map-append in_it ts (t ∷ []) ∙ (ap (λ (l : List (From × ℕ)). in_all ts ++ (l ++ [])) none ∙ append-nil (in_all ts))))

  tells_calm : (c : Conn) (answer : Answer) (said : Note) → Tells c answer said → Calm said
  tells_calm c answer (note.Queued from n to) t = absurd t
  tells_calm c answer (note.Delivered from n to packet) t = absurd t
  tells_calm c answer said t = record { queued = refl; delivered = refl }

  abbrev pub tunnels_of : Option Held → List Tunnel
  tunnels_of None = []
  tunnels_of (Some h) = h.conn.tunnels

  over_does : (h : Held) (want : Want) (answer : Answer) (said : Note) (new : Option Held) → over_or h want answer ≡ Some (said, new) → Does h.conn.tunnels said (tunnels_of new)
  over_does h (Over reason) answer said new e =
      let calm = tells_calm h.conn answer said (acts_tell h (Over reason) answer said new e) in
      let same : tunnels_of new ≡ [] = sym (ap (λ (d : Note × Option Held). tunnels_of d.1) (some_same e)) in
      calm_does h.conn.tunnels (tunnels_of new) said calm (λ some. let none = ap live same in absurd (omega (arith, none, some)))
  over_does h want answer said new e =
      let calm = tells_calm h.conn answer said (acts_tell h want answer said new e) in
      let was = map_was (with_conn (record h { ports = ports_after want answer h.ports })) (done h.conn answer) (said, new) e in
      let same : was.0.1.tunnels ≡ tunnels_of new = ap (λ (d : Note × Option Held). tunnels_of d.1) was.2 in
      let shape = done_tunnels h.conn was.0.1 answer was.0.0 was.1 in
      calm_does h.conn.tunnels (tunnels_of new) said calm (λ some. answered_all h.conn.tunnels was.0.1.tunnels answer shape (subst (λ (us : List Tunnel). 1 ≤ live us) (sym same) some) ∙ ap in_all same)

  -- ---- a frame

  set_by : (b : Bool) (t u : Tunnel) (ws : List Waiting) (ts : List Tunnel) → (u.stream == t.stream) ≡ b → Alone (u ∷ ts) → In t (u ∷ ts) → (In t ts → Changed t (record t { waiting = ws }) ts (set_waiting t.stream ws ts))
      → Changed t (record t { waiting = ws }) (u ∷ ts) (cond b (record u { waiting = ws } ∷ ts) (u ∷ set_waiting t.stream ws ts))
  set_by true t u ws ts is alone (inl same) rest = subst (λ (x : Tunnel). Changed t (record t { waiting = ws }) (x ∷ ts) (record x { waiting = ws } ∷ ts)) (sym same) (changed_first t (record t { waiting = ws }) ts)
  set_by true t u ws ts is alone (inr more) rest =
      let there : has_on ts t.stream ≡ true = in_has ts t more in
      let here : has_on ts u.stream ≡ false = alone.0 in
      let same : u.stream ≡ t.stream = eqb-true u.stream t.stream is in
      let both : has_on ts u.stream ≡ true = ap (has_on ts) same ∙ there in
      absurd cc
  set_by false t u ws ts is alone (inl same) rest =
      let one : (u.stream == t.stream) ≡ true = ap (λ (x : Tunnel). x.stream == t.stream) same ∙ itself t.stream in
      absurd cc
  set_by false t u ws ts is alone (inr more) rest = changed_later t (record t { waiting = ws }) u ts (set_waiting t.stream ws ts) (rest more)

  set_changes : (t : Tunnel) (ws : List Waiting) (ts : List Tunnel) → Alone ts → In t ts → Changed t (record t { waiting = ws }) ts (set_waiting t.stream ws ts)
  set_changes t ws [] alone h = absurd h
  set_changes t ws (u ∷ ts) alone h = set_by (u.stream == t.stream) t u ws ts refl alone h (λ more. set_changes t ws ts alone.1 more)

  in_among : (t : Tunnel) (ts : List Tunnel) → In t ts → Among t ts
  in_among t [] h = h
  in_among t (u ∷ us) (inl same) = inl same
  in_among t (u ∷ us) (inr more) = inr (in_among t us more)

  -- one of them changes, by what the note says of it
  changes_does : (t u : Tunnel) (ts us : List Tunnel) (said : Note) → Among t ts → Changed t u ts us → (has t ≡ 0 → (queued_in target said ≡ []) × (delivered_in target said ≡ []))
      → in_it t ++ queued_in target said ≡ delivered_in target said ++ in_it u → Does ts said us
  changes_does t u ts us said among c only step = record {
    only = λ none. only (let less = among_less has ts t among in omega (arith, less, none));
    goes = λ few some. change_flat in_it has none_in t u ts us (queued_in target said) (delivered_in target said) c few only (λ one. step) some;
  }

  whole_queued : (t : Tunnel) (w : Waiting) (what : What) → queued_in target (whole_note t w what) ≡ []
  whole_queued t w (Packet from n packet) = refl
  whole_queued t w Value = refl

  whole_delivered : (t : Tunnel) (w : Waiting) (what : What) → delivered_in target (whole_note t w what) ≡ cond (t.id == target) (what_names what) []
  whole_delivered t w (Packet from n packet) = refl
  whole_delivered t w Value = sym (none_both (t.id == target))

  framed_does : (ts us : List Tunnel) (said : Note) → Alone ts → Framed ts said us → Does ts said us
  framed_does ts us said alone x = elim x.goes [
    | inl goes ↦ (
        let next : Tunnel = record x.t { waiting = x.ws } in
        let none : queued_in target said ≡ [] = ap (queued_in target) goes.0 ∙ whole_queued x.t x.w x.w.what in
        let gone : delivered_in target said ≡ cond (x.t.id == target) (what_names x.w.what) [] = ap (delivered_in target) goes.0 ∙ whole_delivered x.t x.w x.w.what in
        let had : waiting_names x.t.waiting ≡ what_names x.w.what ++ waiting_names x.ws = ap waiting_names x.waiting in
        let step = cond_step (x.t.id == target) (waiting_names x.t.waiting) (what_names x.w.what) (waiting_names x.ws) had in
        changes_does x.t next ts us said (in_among x.t ts x.among) (subst (Changed x.t next ts) (sym goes.1) (set_changes x.t x.ws ts alone x.among)) (λ e. (none, gone ∙ cond_none (x.t.id == target) (what_names x.w.what) e))
        (ap (λ (l : List (From × ℕ)). in_it x.t ++ l) none ∙ (step ∙ ap (λ (l : List (From × ℕ)). l ++ in_it next) (sym gone))))
    | inr (count, says, is) ↦ (
        let ws : List Waiting = record x.w { framed = x.w.framed + count } ∷ x.ws in
        let next : Tunnel = record x.t { waiting = ws } in
        let none : queued_in target said ≡ [] = ap (queued_in target) says in
        let gone : delivered_in target said ≡ [] = ap (delivered_in target) says in
        let same : in_it x.t ≡ in_it next = ap (λ (l : List Waiting). cond (x.t.id == target) (waiting_names l) []) x.waiting in
        changes_does x.t next ts us said (in_among x.t ts x.among) (subst (Changed x.t next ts) (sym is) (set_changes x.t ws ts alone x.among)) (λ e. (none, gone))
        (ap (λ (l : List (From × ℕ)). in_it x.t ++ l) none ∙ (append-nil (in_it x.t) ∙ (same ∙ ap (λ (l : List (From × ℕ)). l ++ in_it next) (sym gone)))))
  ]

  -- ---- what comes

  waits_by : (b : Bool) (id : ℕ) (w : Waiting) (t u : Tunnel) (ts : List Tunnel) → cond b (Some u) (find (λ (t : Tunnel). t.id == id) ts) ≡ Some t
      → (find (λ (t : Tunnel). t.id == id) ts ≡ Some t → Changed t (record t { waiting = t.waiting ++ w ∷ [] }) ts (waits id w ts))
      → Changed t (record t { waiting = t.waiting ++ w ∷ [] }) (u ∷ ts) (cond b (record u { waiting = u.waiting ++ w ∷ [] } ∷ ts) (u ∷ waits id w ts))
  waits_by true id w t u ts e rest =
      subst (λ (x : Tunnel). Changed t (record t { waiting = t.waiting ++ w ∷ [] }) (x ∷ ts) (record x { waiting = x.waiting ++ w ∷ [] } ∷ ts)) (sym (some_same e)) (changed_first t (record t { waiting = t.waiting ++ w ∷ [] }) ts)
  waits_by false id w t u ts e rest = changed_later t (record t { waiting = t.waiting ++ w ∷ [] }) u ts (waits id w ts) (rest e)

  waits_changes : (id : ℕ) (w : Waiting) (t : Tunnel) (ts : List Tunnel) → find (λ (t : Tunnel). t.id == id) ts ≡ Some t → Changed t (record t { waiting = t.waiting ++ w ∷ [] }) ts (waits id w ts)
  waits_changes id w t [] e = absurd cc
  waits_changes id w t (u ∷ ts) e = waits_by (u.id == id) id w t u ts e (λ e. waits_changes id w t ts e)

  comes_does : (ts us : List Tunnel) (t : Tunnel) (from : From) (n : ℕ) (said : Note) → find (λ (u : Tunnel). u.id == t.id) ts ≡ Some t → Comes ts t from n said us → Does ts said us
  comes_does ts us t from n said own (inl x) =
      let w : Waiting = record { what = Packet from n x.packet; capsule = x.capsule; framed = 0 } in
      let next : Tunnel = record t { waiting = t.waiting ++ w ∷ [] } in
      let came : queued_in target said ≡ cond (t.id == target) ((from, n) ∷ []) [] = ap (queued_in target) x.said_is in
      let none : delivered_in target said ≡ [] = ap (delivered_in target) x.said_is in
      let more : waiting_names t.waiting ++ (from, n) ∷ [] ≡ waiting_names (t.waiting ++ w ∷ []) = sym (flat_map-append (λ (w : Waiting). what_names w.what) t.waiting (w ∷ [])) in
      let step = cond_more (t.id == target) (waiting_names t.waiting) ((from, n) ∷ []) (waiting_names (t.waiting ++ w ∷ [])) more in
      changes_does t next ts us said (found_among (λ (u : Tunnel). u.id == t.id) ts t own) (subst (Changed t next ts) (sym x.is) (waits_changes t.id w t ts own))
      (λ e. (came ∙ cond_none (t.id == target) ((from, n) ∷ []) e, none))
      (ap (λ (l : List (From × ℕ)). in_it t ++ l) came ∙ (step ∙ ap (λ (l : List (From × ℕ)). l ++ in_it next) (sym none)))
  comes_does ts us t from n said own (inr (says, same)) =
      calm_does ts us said (record { queued = ap (queued_in target) says; delivered = ap (delivered_in target) says }) (λ some. sym (ap in_all same))

  same_does : (ts us : List Tunnel) (said : Note) → Calm said → us ≡ ts → Does ts said us
  same_does ts us said calm same = calm_does ts us said calm (λ some. sym (ap in_all same))

  -- ---- a connection's step

  received_does : (c : Conn) (p : Port) (datagram : List ℕ) (o : Option Tunnel) (d : Note × Conn) → tunnel_of c p.tunnel ≡ o
      → option_map (λ (t : Tunnel). settled_note (queued c t (source.Port p.tunnel) p.received datagram)) o ≡ Some d → Does c.tunnels d.0 d.1.tunnels
  received_does c p datagram None d is e = absurd cc
  received_does c p datagram (Some t) d is e =
      let id : t.id ≡ p.tunnel = eqb-true t.id p.tunnel (found_passes (λ (u : Tunnel). u.id == p.tunnel) c.tunnels t is) in
      let own : find (λ (u : Tunnel). u.id == t.id) c.tunnels ≡ Some t = subst (λ i. find (λ (u : Tunnel). u.id == i) c.tunnels ≡ Some t) (sym id) is in
      subst (λ (d : Note × Conn). Does c.tunnels d.0 d.1.tunnels) (some_same e) (comes_does c.tunnels _ t (source.Port p.tunnel) p.received _ own (queued_tunnels c t (source.Port p.tunnel) p.received datagram))

  handles_does : (setup : Setup) (old : Held) (sh : Shared) → Alone old.conn.tunnels → HandlesHeld setup old sh (λ said new after. Does old.conn.tunnels said (tunnels_of new))
  handles_does setup old sh alone = record {
    acts = λ answer said new after x. over_does old (want_of old.conn) answer said new x.is;
    link_fails = λ link answer said new after x. over_does (record old { conn = failed old.conn; link = link }) (want_of (failed old.conn)) answer said new x.is;
    port_fails = λ p t answer said new after is can x. over_does (record old { conn = port_failed old.conn t }) (want_of (port_failed old.conn t)) answer said new x.is;
    frames = λ d is. framed_does old.conn.tunnels d.1.tunnels d.0 alone (framed_tunnels old.conn d is);
    writes = same_does old.conn.tunnels _ _ (record { queued = refl; delivered = refl }) (wrote_tunnels old.conn (write_count old));
    reads = λ first c link took. same_does old.conn.tunnels c.tunnels _ (record { queued = refl; delivered = refl }) (took_tunnels setup old.conn c _ took);
    ends = λ inside x can. same_does old.conn.tunnels _ _ (record { queued = refl; delivered = refl }) (finished_tunnels old.conn inside);
    receives = λ p datagram others d port arrived came. received_does old.conn p datagram (tunnel_of old.conn p.tunnel) d refl came;
  }

  -- ---- a worker's turn

  abbrev pub has_held : Held → ℕ
  has_held h = live h.conn.tunnels

  abbrev pub in_held : Held → List (From × ℕ)
  in_held h = in_all h.conn.tunnels

  pub none_held : (h : Held) → has_held h ≡ 0 → in_held h ≡ []
  none_held h e = none_flat in_it has none_in h.conn.tunnels e

  abbrev pub live_held : List Held → ℕ
  live_held hs = total has_held hs

  abbrev pub in_helds : List Held → List (From × ℕ)
  in_helds hs = flat_map in_held hs

  -- the same, of all connections of a worker
  pub record DoesAll (hs : List Held) (said : Note) (gs : List Held) : Type 0 where
    pub only : live_held hs ≡ 0 → (queued_in target said ≡ []) × (delivered_in target said ≡ [])
    pub goes : live_held hs ≤ 1 → 1 ≤ live_held gs → in_helds hs ++ queued_in target said ≡ delivered_in target said ++ in_helds gs

  calm_all : (hs gs : List Held) (said : Note) → Calm said → in_helds hs ≡ in_helds gs → DoesAll hs said gs
  calm_all hs gs said calm same = record {
    only = λ none. (calm.queued, calm.delivered);
    goes = λ few some. ap (λ (l : List (From × ℕ)). in_helds hs ++ l) calm.queued ∙ (append-nil (in_helds hs) ∙ (same ∙ sym (ap (λ (l : List (From × ℕ)). l ++ in_helds gs) calm.delivered)));
  }

  -- one of them has become another
  became_does : (h g : Held) (hs gs : List Held) (said : Note) → Among h hs → Changed h g hs gs → Does h.conn.tunnels said g.conn.tunnels → DoesAll hs said gs
  became_does h g hs gs said among c d = record {
    only = λ none. d.only (let less = among_less has_held hs h among in omega (arith, less, none));
    goes = λ few some.
        let least = among_less has_held hs h among in
        change_flat in_held has_held none_held h g hs gs (queued_in target said) (delivered_in target said) c few d.only (λ one. d.goes (omega (arith, least, few)) one) some;
  }

  -- or has ended
  ended_does : (h : Held) (hs gs : List Held) (said : Note) → Among h hs → Removed h hs gs → Does h.conn.tunnels said [] → DoesAll hs said gs
  ended_does h hs gs said among c d = record {
    only = λ none. d.only (let less = among_less has_held hs h among in omega (arith, less, none));
    goes = λ few some. remove_flat in_held has_held none_held h hs gs (queued_in target said) (delivered_in target said) c few d.only some;
  }

  pub replaced_does : (n : ℕ) (h : Held) (became : Option Held) (hs : List Held) (said : Note) → find (λ (h : Held). h.conn.number == n) hs ≡ Some h → Does h.conn.tunnels said (tunnels_of became) → DoesAll hs said (replace n became hs)
  replaced_does n h None hs said has_it d = ended_does h hs (replace n None hs) said (found_among (λ (h : Held). h.conn.number == n) hs h has_it) (replace_removed n h hs has_it) d
  replaced_does n h (Some g) hs said has_it d = became_does h g hs (replace n (Some g) hs) said (found_among (λ (h : Held). h.conn.number == n) hs h has_it) (replace_changed n h g hs has_it) d

  -- the tunnel that is found is its connection's
  abbrev FoundOwn : Option (Held × Tunnel) → Type 0
  FoundOwn None = Unit {0}
  FoundOwn (Some found) = find (λ (u : Tunnel). u.id == found.1.id) found.0.conn.tunnels ≡ Some found.1

  own_for_ip : (h : Held) (t : Tunnel) (k : Kind) → find (λ (u : Tunnel). u.id == t.id) h.conn.tunnels ≡ Some t → (o : Option (Held × Tunnel)) → ((k ≡ kind.Udp) → o ≡ None) → ((k ≡ kind.Ip) → o ≡ Some (h, t)) → FoundOwn o
  own_for_ip h t kind.Udp p o none some = subst FoundOwn (sym (none refl)) tt
  own_for_ip h t kind.Ip p o none some = subst FoundOwn (sym (some refl)) p

  found_own : (w : Worker) (to : Place) → FoundOwn (tunnel_in w to)
  found_own w place.Net = tt
  found_own w (place.Tunnel tunnel actor) =
      elim (cases_of (find (has_tunnel tunnel) w.conns)) [
        | inl none ↦ rw none tt
        | inr (held, some) ↦
            elim (cases_of (tunnel_of held.conn tunnel)) [
              | inl none ↦ rw (some, none) tt
              | inr (t, is) ↦ (
                  let same : t.id ≡ tunnel = eqb-true t.id tunnel (found_passes (λ (t : Tunnel). t.id == tunnel) held.conn.tunnels t is) in
                  let own : find (λ (u : Tunnel). u.id == t.id) held.conn.tunnels ≡ Some t = subst (λ i. find (λ (u : Tunnel). u.id == i) held.conn.tunnels ≡ Some t) (sym same) is in
                  own_for_ip held t (kind_of t.goal) own (tunnel_in w (place.Tunnel tunnel actor)) (λ e. rw (some, is, e) refl) (λ e. rw (some, is, e) refl))
            ]
      ]

  passed_does : (c : Conn) (t : Tunnel) (from : From) (n : ℕ) (o : Option (List ℕ)) → find (λ (u : Tunnel). u.id == t.id) c.tunnels ≡ Some t → Does c.tunnels (passed_on c t from n o).0 (passed_on c t from n o).1.tunnels
  passed_does c t from n None own = calm_does c.tunnels c.tunnels _ (record { queued = refl; delivered = refl }) (λ some. refl)
  passed_does c t from n (Some packet) own = comes_does c.tunnels _ t from n _ own (queued_tunnels c t from n packet)

  popped_does : (w : Worker) (parcel : Parcel) → ((i : ℕ) → numbered i w ≤ 1) → DoesAll w.conns (popped w parcel).0 (popped w parcel).1.conns
  popped_does w parcel few =
      elim (cases_of (tunnel_in w parcel.to)) [
        | inl none ↦ rw none (calm_all w.conns w.conns _ (record { queued = refl; delivered = refl }) refl)
        | inr (found, some) ↦ (
            let among : Among found.0 w.conns = subst (FoundAmong w.conns) some (among_in w parcel.to) in
            let own : FoundOwn (Some found) = subst FoundOwn some (found_own w parcel.to) in
            let one = few found.0.conn.number in
            let only : total (is_numbered found.0.conn.number) w.conns ≤ 1 = omega (arith, one) in
            let new : Held = (came_to found.0 found.1 parcel).1 in
            rw some (became_does found.0 new w.conns (replace found.0.conn.number (Some new) w.conns) _ among (among_changed found.0 new w.conns among only)
            (passed_does found.0.conn found.1 (source_of parcel.from) parcel.n (onward parcel.packet) own)))
      ]

  accepted_does : (w : Worker) (offered : List Offer) (said : Note) (new : Worker) → accepted w offered ≡ Some (said, new) → DoesAll w.conns said new.conns
  accepted_does w [] said new e = absurd cc
  accepted_does w (o ∷ offered) said new e =
      let h : Held = record { conn = new_conn o.number w.id; link = o.link; ports = [] } in
      subst (λ (d : Note × Worker). DoesAll w.conns d.0 d.1.conns) (some_same e)
      (calm_all w.conns (w.conns ++ h ∷ []) _ (record { queued = refl; delivered = refl }) (sym (flat_map-append in_held w.conns (h ∷ []) ∙ append-nil (in_helds w.conns))))

  pub seat_does : (w : Worker) (sh : Shared) (seat : Seat) (answer : Answer) (said : Note) (new : Worker) (after : Shared) → ((i : ℕ) → numbered i w ≤ 1) → ((h : Held) → Among h w.conns → Alone h.conn.tunnels)
      → SeatNext w sh seat answer said new after → DoesAll w.conns said new.conns
  seat_does w sh Offers answer said new after few alone x = accepted_does w w.offered said new x.1
  seat_does w sh Inbox answer said new after few alone x = subst (λ (d : Note × Worker). DoesAll w.conns d.0 d.1.conns) x.1.is (popped_does w x.1.parcel few)
  seat_does w sh (Of n) answer said new after few alone x =
      let among = found_among (λ (h : Held). h.conn.number == n) w.conns x.held x.has in
      let did = try_walk w.setup x.held sh (λ said new after. Does x.held.conn.tunnels said (tunnels_of new)) (handles_does w.setup x.held sh (alone x.held among)) x.try answer said x.became after x.tries x.next in
      subst (λ (gs : List Held). DoesAll w.conns said gs) (sym (ap (λ (w : Worker). w.conns) x.new_is)) (replaced_does n x.held x.became w.conns said x.has did)
