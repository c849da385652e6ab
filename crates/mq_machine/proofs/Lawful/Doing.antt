-- What an answer does leaves a connection lawful.
use Rattle.std.proofs.Common.{◌≡◌, ◌≢◌, ℕ, ◌==◌, Bool, true, false, not, cond, ◌||◌, List, [], ◌∷◌, ◌++◌, length, drop, nat_lt, filter, Option, Some, None, refl, sym, ap, ◌∙◌, subst, arith, eqb-true, option_map}
use Rattle.std.specs.Prelude.{find}
use Rattle.std.specs.List.{AllByRecursion, list_any}
use Rattle.std.specs.Option.{is_some, unwrap_or}
use Rattle.std.proofs.lemmas.Bool.{not-true}
use Rattle.mq_addr.specs.declared.kind.Kind.{Kind}
use Rattle.mq_addr.specs.declared.range.Flow.{Flow}
use Rattle.mq_addr.specs.declared.range.Range.{Range}
use Rattle.mq_h2.specs.State as h2
use Rattle.mq_outside.specs.declared.PortPut.{PortPut}
use Rattle.mq_outside.specs.declared.PortPut.TheVariants as put
use Rattle.mq_talk.specs.declared.book.Reply.TheVariants as reply
use Rattle.mq_talk.specs.declared.goal.Goal.{Goal}
use Rattle.mq_talk.specs.declared.note.End.{End}
use Rattle.mq_talk.specs.declared.note.End.TheVariants as end
use Rattle.mq_talk.specs.declared.note.Note.{Note}
use Rattle.mq_talk.specs.declared.note.Why.{Why}
use Rattle.mq_talk.specs.declared.note.Why.TheVariants as why
use Rattle.mq_talk.specs.declared.place.Cause.TheVariants as cause
use Rattle.mq_talk.specs.declared.place.Verdict.{Verdict}
use Rattle.mq_talk.specs.declared.place.Verdict.TheVariants as verdict
use Rattle.mq_machine.specs.declared.act.Act.{Act}
use Rattle.mq_machine.specs.declared.act.Act.TheVariants as act
use Rattle.mq_machine.specs.declared.act.StreamAct.{StreamAct}
use Rattle.mq_machine.specs.declared.act.StreamAct.TheVariants as stream
use Rattle.mq_machine.specs.declared.act.Due.{Due}
use Rattle.mq_machine.specs.declared.act.Due.TheVariants as due
use Rattle.mq_machine.specs.Putting.{first_of}
use Rattle.mq_machine.specs.Settle.{settle}
use Rattle.mq_machine.specs.State.{Conn, Front, Head, OverHttp1, OverHttp2, Stream, Tunnel, kind_of}
use Rattle.mq_machine.specs.Want.{Answer, Said, Bound, Replied, Judged, Pushed, Put}
use Rattle.mq_machine.specs.Words.{assign_value}
use Rattle.mq_machine.specs.Http2 as http2
use Rattle.mq_machine.specs.Done.{is_on, is_begun, refused, closed, first_waiting, opened, dropped, judged, sent, value, stream_done, tunnel_done, act_done, due_done, ending_done, done_by, done}
use Rattle.mq_machine.specs.Steps.{settled_note}
use Rattle.mq_h2.specs.Laws.{may_come}
use Rattle.mq_machine.specs.Lawful.{IsAskedOf, has_on, kind_on, with_one, Follows, is_open, NoOpens, begins_on, kind_behind, IsSeated, has_number, IsFresh, IsOfZero, IsOneRequest, IsUsed, Http2Fits, Fits, Loose, IsLoose, IsLawful}
use Rattle.mq_machine.proofs.Lawful.Lists.{either, either_way, itself, each_filter, each_append, each_so, each_kept, any_filter, none_dropped, follows_same, some_asked, asked_reason, kept, follows_kept, Loses, lost_other, follows_lost, lost_one, begins_kept, behind_kept, spends_kept, none_kept, zero_request, In, found_in, in_each, kind_there, none_there, some_kind, kind_one_more, alone_one_more, numbered_one_more, apart, alone_less, numbered_less, loses_tunnel}
use Rattle.mq_machine.proofs.Lawful.Acts.{keeps_out, keeps_grants, keeps_refuses, keeps_closes, keeps_fits}
use Rattle.mq_machine.proofs.Lawful.Steps.{settle_lawful, waiting_loose}

-- what is done leaves it so
abbrev LooseDone : Option (Note × Conn) → Type 0
LooseDone None = Unit {0}
LooseDone (Some d) = IsLoose d.1

-- the data streams but this one
abbrev others : ℕ → List Stream → List Stream
others id ss = filter (λ (s : Stream). not (s.id == id)) ss

-- ---- one act less

-- behind an act of which nothing is left but the rest
fits_rest : (a : Act) (rest : List Due) (ts : List Tunnel) (ss : List Stream) (f : Front) → (IsOneRequest (due.Do a ∷ rest) → IsOneRequest rest × IsUsed None rest ts) → ((k : ℕ) → list_any (begins_on k) rest ≡ true → list_any (begins_on k) (due.Do a ∷ rest) ≡ true)
    → Fits f None (due.Do a ∷ rest) ts ss → Fits f None rest ts ss
fits_rest a rest ts ss (Head bytes) one begins h = absurd cc
fits_rest a rest ts ss OverHttp1 one begins h = let r = one h.due in record { due = r.0; used = r.1; tunnels = h.tunnels; streams = h.streams }
fits_rest a rest ts ss (OverHttp2 s) one begins h = record {
  tunnels = h.tunnels;
  dues = λ k is. h.dues k (begins k is);
  spends = λ k. (let n = h.spends k in omega (arith, n));
}

-- over HTTP/1.1 a tunnel is there when its request was done
used_rest : (ts : List Tunnel) (rest : List Due) → has_on ts 0 ≡ true → IsUsed None rest ts
used_rest ts [] h = h
used_rest ts (d ∷ rest) h = tt

stream_rest : (id : ℕ) (a : StreamAct) (rest : List Due) (ts : List Tunnel) (ss : List Stream) (f : Front) → Loose None (due.Do (act.OfStream id a) ∷ rest) ts ss f → Loose None rest ts ss f
stream_rest id a rest ts ss f h = record {
  over = tt;
  follows = h.follows.1;
  opens = none_dropped is_open rest h.opens;
  seated = h.seated;
  alone = h.alone;
  numbered = h.numbered;
  front = fits_rest (act.OfStream id a) rest ts ss f (λ one. (zero_request rest one.1, used_rest ts rest (ap (has_on ts) (sym one.0) ∙ sym (kind_there ts id) ∙ some_asked (kind_on ts id) a h.follows.0))) (λ k is. is) h.front;
}

-- another act of the stream in front
stream_front : (id : ℕ) (a b : StreamAct) (rest : List Due) (ts : List Tunnel) (ss : List Stream) (f : Front) → Fits f None (due.Do (act.OfStream id a) ∷ rest) ts ss → Fits f None (due.Do (act.OfStream id b) ∷ rest) ts ss
stream_front id a b rest ts ss (Head bytes) h = absurd cc
stream_front id a b rest ts ss OverHttp1 h = record { due = h.due; used = tt; tunnels = h.tunnels; streams = h.streams }
stream_front id a b rest ts ss (OverHttp2 s) h = record { tunnels = h.tunnels; dues = h.dues; spends = h.spends }

stream_other : (id : ℕ) (a b : StreamAct) (rest : List Due) (ts : List Tunnel) (ss : List Stream) (f : Front) → IsAskedOf (kind_on ts id) b → Loose None (due.Do (act.OfStream id a) ∷ rest) ts ss f
    → Loose None (due.Do (act.OfStream id b) ∷ rest) ts ss f
stream_other id a b rest ts ss f asked h = record {
  over = tt;
  follows = (asked, h.follows.1);
  opens = h.opens;
  seated = h.seated;
  alone = h.alone;
  numbered = h.numbered;
  front = stream_front id a b rest ts ss f h.front;
}

reset_rest : (id code : ℕ) (rest : List Due) (ts : List Tunnel) (ss : List Stream) (f : Front) → Loose None (due.Do (act.Reset id code) ∷ rest) ts ss f → Loose None rest ts ss f
reset_rest id code rest ts ss f h = record {
  over = tt;
  follows = h.follows;
  opens = none_dropped is_open rest h.opens;
  seated = h.seated;
  alone = h.alone;
  numbered = h.numbered;
  front = fits_rest (act.Reset id code) rest ts ss f (λ one. absurd one) (λ k is. is) h.front;
}

-- a port was bound
bound_front : (id : ℕ) (goal : Goal) (rest : List Due) (ts : List Tunnel) (ss : List Stream) (f : Front) → Fits f None (due.Do (act.Bind id goal) ∷ rest) ts ss → Fits f None (due.Do (act.Open id goal) ∷ rest) ts ss
bound_front id goal rest ts ss (Head bytes) h = absurd cc
bound_front id goal rest ts ss OverHttp1 h = record { due = h.due; used = tt; tunnels = h.tunnels; streams = h.streams }
bound_front id goal rest ts ss (OverHttp2 s) h = record { tunnels = h.tunnels; dues = h.dues; spends = h.spends }

bound : (id : ℕ) (goal : Goal) (rest : List Due) (ts : List Tunnel) (ss : List Stream) (f : Front) → Loose None (due.Do (act.Bind id goal) ∷ rest) ts ss f → Loose None (due.Do (act.Open id goal) ∷ rest) ts ss f
bound id goal rest ts ss f h = record {
  over = tt;
  follows = (h.follows.0, h.follows.2);
  opens = h.opens;
  seated = h.seated;
  alone = h.alone;
  numbered = h.numbered;
  front = bound_front id goal rest ts ss f h.front;
}

-- ---- a refusal

-- the request of this stream
abbrev Begins : ℕ → Act → Type 0
Begins id (act.Bind on goal) = on ≡ id
Begins id (act.Open on goal) = on ≡ id
Begins id (act.Refuse on status rule) = on ≡ id
Begins id (act.Reset on code) = ⊥
Begins id (act.OfStream on a) = ⊥

begins_zero : (id : ℕ) (a : Act) (rest : List Due) → Begins id a → IsOneRequest (due.Do a ∷ rest) → (id ≡ 0) × AllByRecursion IsOfZero rest
begins_zero id (act.Bind on goal) rest b h = (sym b ∙ h.0, h.1)
begins_zero id (act.Open on goal) rest b h = (sym b ∙ h.0, h.1)
begins_zero id (act.Refuse on status rule) rest b h = (sym b ∙ h.0, h.1)
begins_zero id (act.Reset on code) rest b h = absurd b
begins_zero id (act.OfStream on a) rest b h = absurd b

-- what is left of what follows
begins_follows : (id : ℕ) (a : Act) (live : ℕ → Option Kind) (rest : List Due) → Begins id a → Follows live (due.Do a ∷ rest) → Follows live (kept id rest)
begins_follows id (act.Bind on goal) live rest b h =
    let P : ℕ → Type 0 = λ i. Follows live (kept i rest) in
    subst P b (follows_lost on (kind_of goal) (with_one on (kind_of goal) live) live (ap (λ t. cond t (Some (kind_of goal)) (live on)) (itself on)) (lost_one on (kind_of goal) live h.0) rest h.2)
begins_follows id (act.Open on goal) live rest b h =
    let P : ℕ → Type 0 = λ i. Follows live (kept i rest) in
    subst P b (follows_lost on (kind_of goal) (with_one on (kind_of goal) live) live (ap (λ t. cond t (Some (kind_of goal)) (live on)) (itself on)) (lost_one on (kind_of goal) live h.0) rest h.1)
begins_follows id (act.Refuse on status rule) live rest b h = follows_kept id live rest h
begins_follows id (act.Reset on code) live rest b h = absurd b
begins_follows id (act.OfStream on a) live rest b h = absurd b

-- the kind of another stream is the same without it
behind_begins : (id k : ℕ) (a : Act) (rest : List Due) (o : Option Kind) → Begins id a → (k == id) ≡ false → kind_behind k (due.Do a ∷ rest) o ≡ kind_behind k rest o
behind_begins id k (act.Bind on goal) rest o b h = ap (λ t. kind_behind k rest (cond t (Some (kind_of goal)) o)) (either_way on k ∙ ap (λ i. k == i) b ∙ h)
behind_begins id k (act.Open on goal) rest o b h = ap (λ t. kind_behind k rest (cond t (Some (kind_of goal)) o)) (either_way on k ∙ ap (λ i. k == i) b ∙ h)
behind_begins id k (act.Refuse on status rule) rest o b h = refl
behind_begins id k (act.Reset on code) rest o b h = absurd b
behind_begins id k (act.OfStream on a) rest o b h = absurd b

begins_seated : (id : ℕ) (a : Act) (rest : List Due) (ts : List Tunnel) (ss : List Stream) → Begins id a → AllByRecursion (IsSeated ts (due.Do a ∷ rest)) ss → AllByRecursion (IsSeated ts (kept id rest)) (others id ss)
begins_seated id a rest ts ss b h =
    each_kept (IsSeated ts (due.Do a ∷ rest)) (IsSeated ts (kept id rest)) (λ (s : Stream). not (s.id == id)) ss
    (λ s stays seat. behind_kept s.id id rest (kind_on ts s.id) ∙ sym (behind_begins id s.id a rest (kind_on ts s.id) b (not-true (s.id == id) stays)) ∙ seat) h

-- of what is due nothing more begins
begins_more : (id k : ℕ) (a : Act) (rest : List Due) → list_any (begins_on k) (kept id rest) ≡ true → list_any (begins_on k) (due.Do a ∷ rest) ≡ true
begins_more id k a rest h = either_true (begins_on k (due.Do a)) (sym (begins_kept k id rest) ∙ h)
  where
    either_true : (b : Bool) → list_any (begins_on k) rest ≡ true → (b || list_any (begins_on k) rest) ≡ true
    either_true true h = refl
    either_true false h = h

no_opens_kept : (id : ℕ) (rest : List Due) → NoOpens rest → NoOpens (drop 1 (kept id rest))
no_opens_kept id rest h = none_dropped is_open (kept id rest) (any_filter is_open (λ d. not (is_on id d)) rest h)

kept_fits : (id : ℕ) (a : Act) (rest : List Due) (ts us : List Tunnel) (x : h2.State) → (AllByRecursion (λ (t : Tunnel). may_come t.stream x ≡ false) ts → AllByRecursion (λ (t : Tunnel). may_come t.stream x ≡ false) us)
    → Http2Fits x (due.Do a ∷ rest) ts → Http2Fits x (kept id rest) us
kept_fits id a rest ts us x less h = record {
  tunnels = less h.tunnels;
  dues = λ k is. h.dues k (begins_more id k a rest is);
  spends = λ k. (let n = h.spends k in let m = spends_kept k id rest in omega (arith, n, m));
}

refused_loose : (d : Conn) (id status rule : ℕ) (a : Act) (rest : List Due) (f : Front) → Begins id a → Loose None (due.Do a ∷ rest) d.tunnels d.streams f
    → IsLoose (refused (record d { ending = None; due = rest; front = f }) id status rule).1
refused_loose d id status rule a rest (Head bytes) b h = absurd (nothing h.front.0)
  where
    nothing : due.Do a ∷ rest ≡ [] → ⊥
    nothing e = cc
refused_loose d id status rule a rest OverHttp1 b h =
    let zero = begins_zero id a rest b h.front.due in
    let none : kept id rest ≡ [] = ap (λ i. kept i rest) zero.0 ∙ none_kept rest zero.1 in
    record {
      over = none;
      follows = begins_follows id a (kind_on d.tunnels) rest b h.follows;
      opens = no_opens_kept id rest h.opens;
      seated = tt;
      alone = h.alone;
      numbered = tt;
      front = record {
        due = subst IsOneRequest (sym none) tt;
        used = tt;
        tunnels = h.front.tunnels;
        streams = each_filter (λ (s : Stream). s.id ≡ 0) (λ (s : Stream). not (s.id == id)) d.streams h.front.streams;
      };
    }
refused_loose d id status rule a rest (OverHttp2 x) b h =
    let y = http2.refuses id status x in
    record {
      over = tt;
      follows = begins_follows id a (kind_on d.tunnels) rest b h.follows;
      opens = no_opens_kept id rest h.opens;
      seated = begins_seated id a rest d.tunnels d.streams b h.seated;
      alone = h.alone;
      numbered = h.numbered;
      front = keeps_fits x (record y { out = [] }) (kept id rest) d.tunnels (keeps_out x y (keeps_refuses id status x)) (kept_fits id a rest d.tunnels d.tunnels x (λ ts. ts) h.front);
    }

-- ---- a tunnel opened

one_more_seated : (t : Tunnel) (rest : List Due) (ts : List Tunnel) (ss : List Stream) → kind_on ts t.stream ≡ None → AllByRecursion (IsSeated ts (due.Do (act.Open t.stream t.goal) ∷ rest)) ss
    → AllByRecursion (IsSeated (ts ++ t ∷ []) rest) ss
one_more_seated t rest ts ss none h =
    each_so (IsSeated ts (due.Do (act.Open t.stream t.goal) ∷ rest)) (IsSeated (ts ++ t ∷ []) rest) ss (λ s seat. ap (kind_behind s.id rest) (kind_one_more t ts none s.id) ∙ seat) h

opened_front : (t : Tunnel) (goal : Goal) (rest : List Due) (ts : List Tunnel) (x : h2.State) → Http2Fits x (due.Do (act.Open t.stream goal) ∷ rest) ts → Http2Fits x rest (ts ++ t ∷ [])
opened_front t goal rest ts x h = record {
  tunnels = each_append (λ (t : Tunnel). may_come t.stream x ≡ false) ts (t ∷ []) h.tunnels
      (h.dues t.stream (ap (λ b. b || list_any (begins_on t.stream) rest) (itself t.stream)), tt);
  dues = λ k is. h.dues k (either_true (t.stream == k) k is);
  spends = λ k. (let n = h.spends k in omega (arith, n));
}
  where
    either_true : (b : Bool) (k : ℕ) → list_any (begins_on k) rest ≡ true → (b || list_any (begins_on k) rest) ≡ true
    either_true true k h = refl
    either_true false k h = h

-- over HTTP/1.1 it is on stream 0
opened_on : (t : Tunnel) (ts : List Tunnel) → kind_on ts t.stream ≡ None → t.stream ≡ 0 → has_on (ts ++ t ∷ []) 0 ≡ true
opened_on t ts none zero =
    sym (kind_there (ts ++ t ∷ []) 0) ∙ ap (λ (o : Option Kind). is_some o) (kind_one_more t ts none 0) ∙ ap (λ i. is_some (cond (i == 0) (Some (kind_of t.goal)) (kind_on ts 0))) zero

opened_loose : (d : Conn) (tunnel id : ℕ) (goal : Goal) (routes : List Range) (rest : List Due) (f : Front) → has_number d.tunnels tunnel ≡ false → Loose None (due.Do (act.Open id goal) ∷ rest) d.tunnels d.streams f
    → IsLoose (opened (record d { ending = None; due = rest; front = f }) tunnel id goal routes).1
opened_loose d tunnel id goal routes rest (Head bytes) fresh h = absurd (nothing h.front.0)
  where
    nothing : due.Do (act.Open id goal) ∷ rest ≡ [] → ⊥
    nothing e = cc
opened_loose d tunnel id goal routes rest OverHttp1 fresh h =
    let t : Tunnel = record { id = tunnel; stream = id; goal = goal; waiting = first_waiting (kind_of goal) routes } in
    let ts = d.tunnels in
    record {
      over = tt;
      follows = follows_same (with_one id (kind_of goal) (kind_on ts)) (kind_on (ts ++ t ∷ [])) (kind_one_more t ts h.follows.0) rest h.follows.1;
      opens = none_dropped is_open rest h.opens;
      seated = one_more_seated t rest ts d.streams h.follows.0 h.seated;
      alone = alone_one_more t ts (none_there ts id h.follows.0) h.alone;
      numbered = numbered_one_more t ts fresh h.numbered;
      front = record {
        due = zero_request rest h.front.due.1;
        used = used_rest (ts ++ t ∷ []) rest (opened_on t ts h.follows.0 h.front.due.0);
        tunnels = each_append (λ (t : Tunnel). t.stream ≡ 0) ts (t ∷ []) h.front.tunnels (h.front.due.0, tt);
        streams = h.front.streams;
      };
    }
opened_loose d tunnel id goal routes rest (OverHttp2 x) fresh h =
    let t : Tunnel = record { id = tunnel; stream = id; goal = goal; waiting = first_waiting (kind_of goal) routes } in
    let ts = d.tunnels in
    let y = http2.grants id x in
    record {
      over = tt;
      follows = follows_same (with_one id (kind_of goal) (kind_on ts)) (kind_on (ts ++ t ∷ [])) (kind_one_more t ts h.follows.0) rest h.follows.1;
      opens = none_dropped is_open rest h.opens;
      seated = one_more_seated t rest ts d.streams h.follows.0 h.seated;
      alone = alone_one_more t ts (none_there ts id h.follows.0) h.alone;
      numbered = numbered_one_more t ts fresh h.numbered;
      front = keeps_fits x (record y { out = [] }) rest (ts ++ t ∷ []) (keeps_out x y (keeps_grants id x)) (opened_front t goal rest ts x h.front);
    }

-- ---- a tunnel closed

less_seated : (t : Tunnel) (rest : List Due) (ts : List Tunnel) (ss : List Stream) → Loses t.stream (kind_on ts) (kind_on (apart t.id ts)) → AllByRecursion (IsSeated ts rest) ss
    → AllByRecursion (IsSeated (apart t.id ts) (kept t.stream rest)) (others t.stream ss)
less_seated t rest ts ss lost h =
    each_kept (IsSeated ts rest) (IsSeated (apart t.id ts) (kept t.stream rest)) (λ (s : Stream). not (s.id == t.stream)) ss
    (λ s stays seat. behind_kept s.id t.stream rest (kind_on (apart t.id ts) s.id)
    ∙ ap (kind_behind s.id rest) (lost_other t.stream s.id (kind_on ts) (kind_on (apart t.id ts)) lost (not-true (s.id == t.stream) stays)) ∙ seat) h

http1_ends : (reason : Why) → reason ≢ why.Conn → (e : End) × (Rattle.mq_machine.specs.Done.http1_end reason ≡ Some e)
http1_ends why.End h = (end.Done, refl)
http1_ends why.Malformed h = (end.Tunnel, refl)
http1_ends why.Truncated h = (end.Truncated, refl)
http1_ends why.Port h = (end.Tunnel, refl)
http1_ends why.Full h = (end.Tunnel, refl)
http1_ends why.Reset h = (end.Tunnel, refl)
http1_ends why.Conn h = absurd (h refl)

-- over HTTP/1.1 it ends with its tunnel
closed_http1 : (e : End) (t : Tunnel) (a : StreamAct) (rest : List Due) (ts : List Tunnel) (ss : List Stream) → t.stream ≡ 0 → Loose None (due.Do (act.OfStream t.stream a) ∷ rest) ts ss OverHttp1
    → Loose (Some e) (kept t.stream rest) (apart t.id ts) (others t.stream ss) OverHttp1
closed_http1 e t a rest ts ss zero h =
    let none : kept t.stream rest ≡ [] = ap (λ i. kept i rest) zero ∙ none_kept rest h.front.due.1 in
    let P : List Due → Type 0 = λ ds. Follows (kind_on (apart t.id ts)) ds in
    record {
      over = none;
      follows = subst P (sym none) tt;
      opens = subst (λ (ds : List Due). NoOpens (drop 1 ds)) (sym none) refl;
      seated = tt;
      alone = alone_less (λ (u : Tunnel). not (u.id == t.id)) ts h.alone;
      numbered = tt;
      front = record {
        due = subst IsOneRequest (sym none) tt;
        used = tt;
        tunnels = each_filter (λ (t : Tunnel). t.stream ≡ 0) (λ (u : Tunnel). not (u.id == t.id)) ts h.front.tunnels;
        streams = each_filter (λ (s : Stream). s.id ≡ 0) (λ (s : Stream). not (s.id == t.stream)) ss h.front.streams;
      };
    }

closed_loose : (d : Conn) (t : Tunnel) (a : StreamAct) (reason : Why) (rest : List Due) (f : Front) → reason ≢ why.Conn → In t d.tunnels → Loose None (due.Do (act.OfStream t.stream a) ∷ rest) d.tunnels d.streams f
    → IsLoose (closed (record d { ending = None; due = rest; front = f }) t reason).1
closed_loose d t a reason rest (Head bytes) other i h = absurd (nothing h.front.0)
  where
    nothing : due.Do (act.OfStream t.stream a) ∷ rest ≡ [] → ⊥
    nothing e = cc
closed_loose d t a reason rest OverHttp1 other i h =
    let ends = http1_ends reason other in
    let P : Option End → Type 0 = λ e. Loose (first_of None e) (kept t.stream rest) (apart t.id d.tunnels) (others t.stream d.streams) OverHttp1 in
    subst P (sym ends.1) (closed_http1 ends.0 t a rest d.tunnels d.streams (in_each (λ (t : Tunnel). t.stream ≡ 0) d.tunnels t h.front.tunnels i) h)
closed_loose d t a reason rest (OverHttp2 x) other i h =
    let ts = d.tunnels in
    let y = http2.closes t.stream (is_begun t.waiting) reason x in
    let lost = loses_tunnel t ts h.alone h.numbered i in
    let was = some_kind (kind_on ts t.stream) (some_asked (kind_on ts t.stream) a h.follows.0) in
    record {
      over = tt;
      follows = follows_lost t.stream was.0 (kind_on ts) (kind_on (apart t.id ts)) was.1 lost rest h.follows.1;
      opens = no_opens_kept t.stream rest h.opens;
      seated = less_seated t rest ts d.streams lost h.seated;
      alone = alone_less (λ (u : Tunnel). not (u.id == t.id)) ts h.alone;
      numbered = numbered_less (λ (u : Tunnel). not (u.id == t.id)) ts h.numbered;
      front = keeps_fits x (record y { out = [] }) (kept t.stream rest) (apart t.id ts) (keeps_out x y (keeps_closes t.stream (is_begun t.waiting) reason x))
          (kept_fits t.stream (act.OfStream t.stream a) rest ts (apart t.id ts) x (λ all. each_filter (λ (t : Tunnel). may_come t.stream x ≡ false) (λ (u : Tunnel). not (u.id == t.id)) ts all) h.front);
    }

-- an ending one closes its tunnels
closing_loose : (d : Conn) (t : Tunnel) (e : End) (us : List Tunnel) (f : Front) → Loose (Some e) [] (t ∷ us) d.streams f
    → IsLoose (closed (record d { ending = Some e; due = []; tunnels = t ∷ us; front = f }) t why.Conn).1
closing_loose d t e us (Head bytes) h = absurd (nothing h.front.1)
  where
    nothing : t ∷ us ≡ [] → ⊥
    nothing e = cc
closing_loose d t e us OverHttp1 h = record {
  over = refl;
  follows = tt;
  opens = refl;
  seated = tt;
  alone = alone_less (λ (u : Tunnel). not (u.id == t.id)) (t ∷ us) h.alone;
  numbered = tt;
  front = record {
    due = tt;
    used = tt;
    tunnels = each_filter (λ (t : Tunnel). t.stream ≡ 0) (λ (u : Tunnel). not (u.id == t.id)) (t ∷ us) h.front.tunnels;
    streams = each_filter (λ (s : Stream). s.id ≡ 0) (λ (s : Stream). not (s.id == t.stream)) d.streams h.front.streams;
  };
}
closing_loose d t e us (OverHttp2 x) h = record {
  over = refl;
  follows = tt;
  opens = refl;
  seated = tt;
  alone = alone_less (λ (u : Tunnel). not (u.id == t.id)) (t ∷ us) h.alone;
  numbered = tt;
  front = record {
    tunnels = each_filter (λ (t : Tunnel). may_come t.stream x ≡ false) (λ (u : Tunnel). not (u.id == t.id)) (t ∷ us) h.front.tunnels;
    dues = h.front.dues;
    spends = h.front.spends;
  };
}

-- ---- what an answer does

sent_loose : (c : Conn) (t : Tunnel) (n : ℕ) (payload : List ℕ) (answer : PortPut) → IsLoose c → LooseDone (sent c t n payload answer)
sent_loose c t n payload put.Sent h = h
sent_loose c t n payload put.Failed h = h
sent_loose c t n payload put.NotNow h = tt

judged_loose : (d : Conn) (t : Tunnel) (n : ℕ) (packet : List ℕ) (flow : Flow) (said : Verdict) (at : ℕ) (rest : List Due) (f : Front) → Loose None (due.Do (act.OfStream t.stream (stream.Packet n packet flow)) ∷ rest) d.tunnels d.streams f
    → IsLoose (judged (record d { ending = None; due = rest; front = f }) t n packet said at).1
judged_loose d t n packet flow (verdict.Pass to) at rest f h = stream_other t.stream (stream.Packet n packet flow) (stream.Push n to packet) rest d.tunnels d.streams f (pushes (kind_on d.tunnels t.stream) h.follows.0) h
  where
    pushes : (o : Option Kind) → IsAskedOf o (stream.Packet n packet flow) → IsAskedOf o (stream.Push n to packet)
    pushes None asked = asked
    pushes (Some kind) asked = asked
judged_loose d t n packet flow verdict.Source at rest f h = stream_rest t.stream (stream.Packet n packet flow) rest d.tunnels d.streams f h
judged_loose d t n packet flow verdict.NoRoute at rest f h = stream_rest t.stream (stream.Packet n packet flow) rest d.tunnels d.streams f h

stream_loose : (d : Conn) (t : Tunnel) (a : StreamAct) (answer : Answer) (rest : List Due) (f : Front) → In t d.tunnels → Loose None (due.Do (act.OfStream t.stream a) ∷ rest) d.tunnels d.streams f
    → LooseDone (stream_done (record d { ending = None; due = rest; front = f }) t a answer)
stream_loose d t (stream.Payload n payload) (Put put_so limit) rest f i h =
    let r = stream_rest t.stream (stream.Payload n payload) rest d.tunnels d.streams f h in
    let c : Conn = record d { ending = None; due = rest; front = f } in
    either (nat_lt limit (length payload)) LooseDone (Some (dropped c t n cause.TooLong)) (sent c t n payload put_so) r (sent_loose c t n payload put_so r)
stream_loose d t (stream.Packet n packet flow) (Judged said at) rest f i h = judged_loose d t n packet flow said at rest f h
stream_loose d t (stream.Push n to packet) (Pushed true) rest f i h = stream_rest t.stream (stream.Push n to packet) rest d.tunnels d.streams f h
stream_loose d t (stream.Push n to packet) (Pushed false) rest f i h = stream_rest t.stream (stream.Push n to packet) rest d.tunnels d.streams f h
stream_loose d t (stream.Drop n cause) Said rest f i h = stream_rest t.stream (stream.Drop n cause) rest d.tunnels d.streams f h
stream_loose d t (stream.Assign list) (Replied (reply.Assigned given at)) rest f i h =
    waiting_loose t.id (value 1 (assign_value given)) (record d { ending = None; due = rest; front = f }) (stream_rest t.stream (stream.Assign list) rest d.tunnels d.streams f h)
stream_loose d t (stream.Assign list) (Replied reply.Closed) rest f i h = closed_loose d t (stream.Assign list) why.Full rest f (λ e. cc) i h
stream_loose d t (stream.Advertise ranges) (Replied (reply.Accepted accepts at)) rest f i h = stream_rest t.stream (stream.Advertise ranges) rest d.tunnels d.streams f h
stream_loose d t (stream.Advertise ranges) (Replied reply.Closed) rest f i h = closed_loose d t (stream.Advertise ranges) why.Full rest f (λ e. cc) i h
stream_loose d t (stream.Close reason) (Replied reply.Closed) rest f i h = closed_loose d t (stream.Close reason) reason rest f (asked_reason (kind_on d.tunnels t.stream) reason h.follows.0) i h
stream_loose d t a answer rest f i h = tt

tunnel_loose : (d : Conn) (id : ℕ) (o : Option Tunnel) (a : StreamAct) (answer : Answer) (rest : List Due) (f : Front) → ((t : Tunnel) → o ≡ Some t → (t.stream ≡ id) × In t d.tunnels)
    → Loose None (due.Do (act.OfStream id a) ∷ rest) d.tunnels d.streams f → LooseDone (tunnel_done (record d { ending = None; due = rest; front = f }) o a answer)
tunnel_loose d id None a answer rest f is h = tt
tunnel_loose d id (Some t) a answer rest f is h =
    let there = is t refl in
    let P : ℕ → Type 0 = λ i. Loose None (due.Do (act.OfStream i a) ∷ rest) d.tunnels d.streams f in
    stream_loose d t a answer rest f there.1 (subst P (sym there.0) h)

found_on : (ts : List Tunnel) (id : ℕ) (t : Tunnel) → find (λ (t : Tunnel). t.stream == id) ts ≡ Some t → (t.stream ≡ id) × In t ts
found_on ts id t e = let there = found_in (λ (t : Tunnel). t.stream == id) ts t e in (eqb-true t.stream id there.0, there.1)

act_loose : (d : Conn) (a : Act) (answer : Answer) (rest : List Due) (f : Front) → IsFresh d.tunnels answer → Loose None (due.Do a ∷ rest) d.tunnels d.streams f
    → LooseDone (act_done (record d { ending = None; due = rest; front = f }) a answer)
act_loose d (act.Bind id goal) (Bound true) rest f fresh h = bound id goal rest d.tunnels d.streams f h
act_loose d (act.Bind id goal) (Bound false) rest f fresh h = refused_loose d id 502 0 (act.Bind id goal) rest f refl h
act_loose d (act.Open id goal) (Replied (reply.Opened tunnel routes)) rest f fresh h = opened_loose d tunnel id goal routes rest f fresh h
act_loose d (act.Open id goal) (Replied (reply.HistoryFull entries live)) rest f fresh h = refused_loose d id 503 0 (act.Open id goal) rest f refl h
act_loose d (act.Refuse id status rule) Said rest f fresh h = refused_loose d id status rule (act.Refuse id status rule) rest f refl h
act_loose d (act.Reset id code) Said rest f fresh h = reset_rest id code rest d.tunnels d.streams f h
act_loose d (act.OfStream id a) answer rest f fresh h = tunnel_loose d id (find (λ (t : Tunnel). t.stream == id) d.tunnels) a answer rest f (found_on d.tunnels id) h
act_loose d a answer rest f fresh h = tt

due_loose : (d : Conn) (ds : List Due) (answer : Answer) (f : Front) → IsFresh d.tunnels answer → Loose None ds d.tunnels d.streams f → LooseDone (due_done (record d { ending = None; due = ds; front = f }) ds answer)
due_loose d (due.Do a ∷ rest) answer f fresh h = act_loose d a answer rest f fresh h
due_loose d (due.Spend id size ∷ rest) answer f fresh h = tt
due_loose d (due.Fault code ∷ rest) answer f fresh h = tt
due_loose d [] answer f fresh h = tt

ending_loose : (d : Conn) (e : End) (ts : List Tunnel) (answer : Answer) (f : Front) → Loose (Some e) [] ts d.streams f → LooseDone (ending_done (record d { ending = Some e; due = []; tunnels = ts; front = f }) ts answer)
ending_loose d e (t ∷ ts) (Replied reply.Closed) f h = closing_loose d t e ts f h
ending_loose d e ts answer f h = tt

by_loose : (d : Conn) (e : Option End) (answer : Answer) → IsFresh d.tunnels answer → Loose e d.due d.tunnels d.streams d.front → LooseDone (done_by (record d { ending = e }) e answer)
by_loose d None answer fresh h = due_loose d d.due answer d.front fresh h
by_loose d (Some e) answer fresh h =
    let P : List Due → Type 0 = λ ds. Loose (Some e) ds d.tunnels d.streams d.front → LooseDone (ending_done (record d { ending = Some e; due = ds }) d.tunnels answer) in
    subst P (sym h.over) (ending_loose d e d.tunnels answer d.front) h

pub done_loose : (c : Conn) (answer : Answer) (said : Note) (x : Conn) → IsLawful c → IsFresh c.tunnels answer → done_by c c.ending answer ≡ Some (said, x) → IsLoose x
done_loose c answer said x h fresh is = subst LooseDone is (by_loose c c.ending answer fresh h.loose)

-- behind it the act ends
settled_done : (o : Option (Note × Conn)) (said : Note) (d : Conn) → LooseDone o → option_map settled_note o ≡ Some (said, d) → IsLawful d
settled_done None said d h is = absurd cc
settled_done (Some x) said d h is =
    let same : settle x.1 ≡ d = ap (λ (o : Option (Note × Conn)). (unwrap_or o (said, d)).1) is in
    subst IsLawful same (settle_lawful x.1 h)

pub done_lawful : (c : Conn) (answer : Answer) (said : Note) (d : Conn) → IsLawful c → IsFresh c.tunnels answer → done c answer ≡ Some (said, d) → IsLawful d
done_lawful c answer said d h fresh is = settled_done (done_by c c.ending answer) said d (by_loose c c.ending answer fresh h.loose) is
