-- A read leaves a connection lawful.
use Rattle.std.proofs.Common.{◌≡◌, ℕ, ◌+◌, ◌≤◌, ◌==◌, Bool, true, false, cond, ◌||◌, List, [], ◌∷◌, ◌++◌, drop, Option, Some, None, refl, sym, ap, ◌∙◌, subst, arith, eqb-true, inl, inr, count_by, append-nil}
use Rattle.std.specs.Prelude.{find}
use Rattle.std.specs.List.{AllByRecursion, list_any}
use Rattle.std.specs.Option.{is_some, unwrap_or}
use Rattle.std.proofs.lemmas.List.Recursion.{is_count_by}
use Rattle.mq_addr.specs.declared.kind.Kind.{Kind}
use Rattle.mq_h2.specs.declared.event.StreamEvent as http2
use Rattle.mq_h2.specs.declared.event.StreamEvent.TheVariants as frame_event
use Rattle.mq_h2.specs.Laws.{IsAskedOnce, IsTold, may_come, one}
use Rattle.mq_h2.specs.Reading.{asks, told_on, told_in}
use Rattle.mq_h2.specs.State as h2
use Rattle.mq_head.specs.declared.step.HeadStep.{HeadStep}
use Rattle.mq_head.specs.declared.step.HeadStep.TheVariants.{More, Upgrade, Refuse}
use Rattle.mq_talk.specs.declared.goal.Goal.{Goal}
use Rattle.mq_talk.specs.declared.goal.Goal.TheVariants as goal
use Rattle.mq_talk.specs.declared.note.End.{End}
use Rattle.mq_talk.specs.declared.note.Why.TheVariants as why
use Rattle.mq_machine.specs.declared.act.Act.TheVariants as act
use Rattle.mq_machine.specs.declared.act.StreamAct.{StreamAct}
use Rattle.mq_machine.specs.declared.act.StreamAct.TheVariants as stream
use Rattle.mq_machine.specs.declared.act.Due.{Due}
use Rattle.mq_machine.specs.declared.act.Due.TheVariants as due
use Rattle.mq_machine.specs.declared.setup.Setup.{Setup}
use Rattle.mq_machine.specs.State.{Conn, Front, Head, OverHttp1, OverHttp2, Stream, Tunnel, kind_of}
use Rattle.mq_machine.specs.Reading.{Meaning, Leads, Refused, StreamEvent, Request, Malformed, Content, Reset, ConnectionError, on_stream, stream_of, more_bytes, mark_of, goal_act, ended_acts, error_acts, reset_acts, ContentAsks, EventAsks, EventsAsk, content_of, StepBrings, EventBrings, EventsBring, FramesBring, Opening, Part, Whole, Other, opening_of, OtherBrings, OpeningBrings, Brings, TookNext}
use Rattle.mq_machine.specs.Steps.{can_read}
use Rattle.mq_machine.specs.Lawful.{IsAskedOf, has_on, kind_on, with_one, Follows, is_open, NoOpens, begins_on, kind_behind, IsOfZero, IsOneRequest, IsUsed, Http1Fits, Http2Fits, Fits, Loose, IsLoose, IsLawful, spends}
use Rattle.mq_machine.proofs.Lawful.Lists.{either, itself, never, each_append, each_so, none_dropped, other_than, closes_asked, behind_both, behind_some, behind_none, In, in_has, kind_there, zero_request}
use Rattle.mq_machine.proofs.Lawful.Steps.{settle_lawful}
use Rattle.mq_machine.proofs.Lawful.Idle.{reads_idle}
use Rattle.mq_machine.proofs.Lawful.Items.{AreAsked, asked_bytes}

-- ---- lists

or_none : (b : Bool) → (b || false) ≡ b
or_none true = refl
or_none false = refl

or_assoc : (a b c : Bool) → ((a || b) || c) ≡ (a || (b || c))
or_assoc true b c = refl
or_assoc false b c = refl

or_left : (a b : Bool) → a ≡ true → (a || b) ≡ true
or_left true b h = refl
or_left false b h = absurd cc

any_append : {A : Type 0} (f : A → Bool) (xs ys : List A) → list_any f (xs ++ ys) ≡ (list_any f xs || list_any f ys)
any_append f [] ys = refl
any_append f (x ∷ xs) ys = ap (λ b. f x || b) (any_append f xs ys) ∙ sym (or_assoc (f x) (list_any f xs) (list_any f ys))

found_each : {A : Type 0} (P : A → Type 0) (p : A → Bool) (xs : List A) (y : A) → AllByRecursion P xs → find p xs ≡ Some y → P y × (p y ≡ true)
found_each P p [] y h e = absurd cc
found_each P p (x ∷ xs) y h e = by_first (p x) refl e (found_each P p xs y h.1)
  where
    by_first : (b : Bool) → p x ≡ b → cond b (Some x) (find p xs) ≡ Some y → (find p xs ≡ Some y → P y × (p y ≡ true)) → P y × (p y ≡ true)
    by_first true i k later = let same : x ≡ y = ap (λ o. unwrap_or o x) k in (subst P same h.0, ap p (sym same) ∙ i)
    by_first false i k later = later k

spends_append : (id : ℕ) (xs ys : List Due) → spends id (xs ++ ys) ≡ spends id xs + spends id ys
spends_append id [] ys = omega arith
spends_append id (x ∷ xs) ys = let rest = spends_append id xs ys in omega (arith, rest)

-- what is live behind these
abbrev then_live : (ℕ → Option Kind) → List Due → ℕ → Option Kind
then_live live ds k = kind_behind k ds (live k)

follows_both : (live : ℕ → Option Kind) (xs ys : List Due) → Follows live xs → Follows (then_live live xs) ys → Follows live (xs ++ ys)
follows_both live [] ys h k = k
follows_both live (due.Do (act.Bind id goal) ∷ xs) ys h k = (h.0, h.1, follows_both (with_one id (kind_of goal) live) xs ys h.2 k)
follows_both live (due.Do (act.Open id goal) ∷ xs) ys h k = (h.0, follows_both (with_one id (kind_of goal) live) xs ys h.1 k)
follows_both live (due.Do (act.Refuse id status rule) ∷ xs) ys h k = follows_both live xs ys h k
follows_both live (due.Do (act.Reset id code) ∷ xs) ys h k = follows_both live xs ys h k
follows_both live (due.Do (act.OfStream id a) ∷ xs) ys h k = (h.0, follows_both live xs ys h.1 k)
follows_both live (due.Spend id size ∷ xs) ys h k = follows_both live xs ys h k
follows_both live (due.Fault code ∷ xs) ys h k = follows_both live xs ys h k

-- ---- requests of a stream

abbrev asks_for : ℕ → StreamEvent → Bool
asks_for id (Request on meaning ends) = on == id
asks_for id (Malformed on code) = false
asks_for id (Content on bytes size ends) = false
asks_for id (Reset on) = false
asks_for id (ConnectionError code) = false

abbrev requests : ℕ → List StreamEvent → ℕ
requests id [] = 0
requests id (e ∷ es) = one (asks_for id e) + requests id es

-- no stream asks that has a tunnel, or twice
abbrev AskOnce : (ℕ → Bool) → List StreamEvent → Type 0
AskOnce live es = (id : ℕ) → requests id es + one (live id) ≤ 1

once_later : (a live begins : Bool) (n : ℕ) → (begins ≡ true → a ≡ true) → (one a + n) + one live ≤ 1 → n + one (live || begins) ≤ 1
once_later true live true n f h = by_live live h
  where
    by_live : (b : Bool) → (one true + n) + one b ≤ 1 → n + one (b || true) ≤ 1
    by_live true h = omega (arith, h)
    by_live false h = omega (arith, h)
once_later false live true n f h = absurd (let e : false ≡ true = f refl in nothing e)
  where
    nothing : false ≡ true → ⊥
    nothing e = cc
once_later a live false n f h = subst (λ b. n + one b ≤ 1) (sym (or_none live)) (omega (arith, h))

once_free : (o : Option Kind) (n : ℕ) → (1 + n) + one (is_some o) ≤ 1 → o ≡ None
once_free None n h = refl
once_free (Some kind) n h = absurd (omega (arith, h))

-- ---- one event

abbrev Live : (ℕ → Option Kind) → Stream → Type 0
Live live s = live s.id ≡ Some (kind_of s.goal)

abbrev AreLive : (ℕ → Option Kind) → List Stream → Type 0
AreLive live ss = AllByRecursion (Live live) ss

-- what events ask for, and the data streams then
record Asked (live : ℕ → Option Kind) (acts : List Due) (new : List Stream) (asking : ℕ → ℕ) : Type 0 where
  follows : Follows live acts
  opens : NoOpens acts
  seated : AreLive (then_live live acts) new
  begins : (id : ℕ) → list_any (begins_on id) acts ≡ true → 1 ≤ asking id

-- acts that begin nothing
abbrev BeginNone : List Due → Type 0
BeginNone acts = (id : ℕ) → list_any (begins_on id) acts ≡ false

still_live : (live : ℕ → Option Kind) (acts : List Due) (ss : List Stream) → BeginNone acts → AreLive live ss → AreLive (then_live live acts) ss
still_live live acts ss none h = each_so (Live live) (Live (then_live live acts)) ss (λ s k. behind_none s.id acts (live s.id) (none s.id) ∙ k) h

quiet : (live : ℕ → Option Kind) (acts : List Due) (new : List Stream) (asking : ℕ → ℕ) → Follows live acts → NoOpens acts → BeginNone acts → AreLive live new → Asked live acts new asking
quiet live acts new asking follows opens none seated = record {
  follows = follows;
  opens = opens;
  seated = still_live live acts new none seated;
  begins = λ id is. never (list_any (begins_on id) acts) is (none id);
}

-- where it is so of others that are equal
asked_same : (live : ℕ → Option Kind) (acts acts2 : List Due) (new new2 : List Stream) (asking : ℕ → ℕ) → acts ≡ acts2 → new ≡ new2 → Asked live acts2 new2 asking → Asked live acts new asking
asked_same live acts acts2 new new2 asking e f h =
    let P : List Due → Type 0 = λ ds. Asked live ds new2 asking in
    let Q : List Stream → Type 0 = λ ss. Asked live acts ss asking in
    subst Q (sym f) (subst P (sym e) h)

more_live : (live : ℕ → Option Kind) (id : ℕ) (bytes : List ℕ) (ss : List Stream) → AreLive live ss → AreLive live (more_bytes id bytes ss)
more_live live id bytes [] h = tt
more_live live id bytes (s ∷ ss) h = either (s.id == id) (AreLive live) (record s { bytes = s.bytes ++ bytes } ∷ ss) (s ∷ more_bytes id bytes ss) h (h.0, more_live live id bytes ss h.1)

more_zero : (id : ℕ) (bytes : List ℕ) (ss : List Stream) → AllByRecursion (λ (s : Stream). s.id ≡ 0) ss → AllByRecursion (λ (s : Stream). s.id ≡ 0) (more_bytes id bytes ss)
more_zero id bytes [] h = tt
more_zero id bytes (s ∷ ss) h =
    either (s.id == id) (λ (ss : List Stream). AllByRecursion (λ (s : Stream). s.id ≡ 0) ss) (record s { bytes = s.bytes ++ bytes } ∷ ss) (s ∷ more_bytes id bytes ss) h (h.0, more_zero id bytes ss h.1)

stream_follows : (live : ℕ → Option Kind) (id : ℕ) (kind : Kind) (asked : List StreamAct) (tail : List Due) → live id ≡ Some kind → AreAsked kind asked → Follows live tail → Follows live (on_stream id asked ++ tail)
stream_follows live id kind [] tail h k f = f
stream_follows live id kind (a ∷ asked) tail h k f = (subst (λ (o : Option Kind). IsAskedOf o a) (sym h) k.0, stream_follows live id kind asked tail h k.1 f)

stream_opens : (id : ℕ) (asked : List StreamAct) (tail : List Due) → NoOpens tail → NoOpens (on_stream id asked ++ tail)
stream_opens id [] tail h = h
stream_opens id (a ∷ asked) tail h = stream_opens id asked tail h

stream_begins : (id : ℕ) (asked : List StreamAct) (tail : List Due) → BeginNone tail → BeginNone (on_stream id asked ++ tail)
stream_begins id [] tail h k = h k
stream_begins id (a ∷ asked) tail h k = stream_begins id asked tail h k

mark_follows : (live : ℕ → Option Kind) (id : ℕ) (size : Option ℕ) → Follows live (mark_of id size)
mark_follows live id None = tt
mark_follows live id (Some n) = tt

mark_opens : (id : ℕ) (size : Option ℕ) → NoOpens (mark_of id size)
mark_opens id None = refl
mark_opens id (Some n) = refl

mark_begins : (id : ℕ) (size : Option ℕ) → BeginNone (mark_of id size)
mark_begins id None k = refl
mark_begins id (Some n) k = refl

content_asked : (mtu : ℕ) (live : ℕ → Option Kind) (id : ℕ) (bytes : List ℕ) (size : Option ℕ) (ends : Bool) (o : Option Stream) (acts : List Due) (new : List Stream) (asking : ℕ → ℕ)
    → ((s : Stream) → o ≡ Some s → Live live s × (s.id ≡ id)) → AreLive live new → ContentAsks mtu id bytes size ends o acts → Asked live acts new asking
content_asked mtu live id bytes size ends None acts new asking is seated x =
    asked_same live acts (mark_of id size) new new asking x refl
    (quiet live (mark_of id size) new asking (mark_follows live id size) (mark_opens id size) (mark_begins id size) seated)
content_asked mtu live id bytes size ends (Some s) acts new asking is seated x =
    let there = is s refl in
    let alive = ap live (sym there.1) ∙ there.0 in
    let here = on_stream id x.0 ++ mark_of id size in
    asked_same live acts here new new asking x.2 refl (
    quiet live here new asking
    (stream_follows live id (kind_of s.goal) x.0 (mark_of id size) alive (asked_bytes mtu s bytes ends x.0 x.1) (mark_follows live id size))
    (stream_opens id x.0 (mark_of id size) (mark_opens id size)) (stream_begins id x.0 (mark_of id size) (mark_begins id size)) seated
    )

ended_follows : (live : ℕ → Option Kind) (id : ℕ) (ends : Bool) → is_some (live id) ≡ true → Follows live (ended_acts id ends)
ended_follows live id true h = (closes_asked (live id) why.End h (λ e. cc), tt)
ended_follows live id false h = tt

ended_opens : (id : ℕ) (ends : Bool) → NoOpens (ended_acts id ends)
ended_opens id true = refl
ended_opens id false = refl

ended_begins : (id : ℕ) (ends : Bool) → BeginNone (ended_acts id ends)
ended_begins id true k = refl
ended_begins id false k = refl

-- the act of a request begins its stream, of the kind of its goal
goal_follows : (live : ℕ → Option Kind) (id : ℕ) (found : Goal) (rest : List Due) → live id ≡ None → Follows (with_one id (kind_of found) live) rest → Follows live (due.Do (goal_act id found) ∷ rest)
goal_follows live id (goal.Udp addr port) rest free h = (free, tt, h)
goal_follows live id (goal.Ip area protocol) rest free h = (free, h)

goal_opens : (id : ℕ) (found : Goal) (rest : List Due) → NoOpens rest → NoOpens (due.Do (goal_act id found) ∷ rest)
goal_opens id (goal.Udp addr port) rest h = h
goal_opens id (goal.Ip area protocol) rest h = h

goal_behind : (id k : ℕ) (found : Goal) (rest : List Due) (o : Option Kind) → kind_behind k (due.Do (goal_act id found) ∷ rest) o ≡ kind_behind k rest (cond (id == k) (Some (kind_of found)) o)
goal_behind id k (goal.Udp addr port) rest o = refl
goal_behind id k (goal.Ip area protocol) rest o = refl

goal_begins : (id k : ℕ) (found : Goal) (rest : List Due) → list_any (begins_on k) (due.Do (goal_act id found) ∷ rest) ≡ ((id == k) || list_any (begins_on k) rest)
goal_begins id k (goal.Udp addr port) rest = refl
goal_begins id k (goal.Ip area protocol) rest = refl

-- a request that leads somewhere
leads_asked : (live : ℕ → Option Kind) (id : ℕ) (found : Goal) (ends : Bool) (old : List Stream) (asking : ℕ → ℕ) → live id ≡ None → AreLive live old → ((k : ℕ) → (id == k) ≡ true → 1 ≤ asking k)
    → Asked live (due.Do (goal_act id found) ∷ ended_acts id ends) (old ++ record { id = id; goal = found; bytes = [] } ∷ []) asking
leads_asked live id found ends old asking free seated asks =
    let rest = ended_acts id ends in
    let acts = due.Do (goal_act id found) ∷ rest in
    let kind = kind_of found in
    let behind = λ (k : ℕ). goal_behind id k found rest (live k) ∙ behind_none k rest (with_one id kind live k) (ended_begins id ends k) in
    record {
      follows = goal_follows live id found rest free (ended_follows (with_one id kind live) id ends (ap (λ b. is_some (cond b (Some kind) (live id))) (itself id)));
      opens = goal_opens id found rest (ended_opens id ends);
      seated = each_append (Live (then_live live acts)) old (record { id = id; goal = found; bytes = [] } ∷ [])
          (each_so (Live live) (Live (then_live live acts)) old (λ s k. behind s.id ∙ ap (λ b. cond b (Some kind) (live s.id)) (other_than live s.id id (kind_of s.goal) k free) ∙ k) seated)
          (behind id ∙ ap (λ b. cond b (Some kind) (live id)) (itself id), tt);
      begins = λ k is. asks k (sym (or_none (id == k)) ∙ ap (λ b. (id == k) || b) (sym (ended_begins id ends k)) ∙ sym (goal_begins id k found rest) ∙ is);
    }

-- an error of a stream, or its end
error_asked : (live : ℕ → Option Kind) (id code : ℕ) (o : Option Tunnel) (old : List Stream) (asking : ℕ → ℕ) → ((t : Tunnel) → o ≡ Some t → is_some (live id) ≡ true) → AreLive live old → Asked live (error_acts id code o) old asking
error_asked live id code None old asking is seated = quiet live (due.Do (act.Reset id code) ∷ []) old asking tt refl (λ k. refl) seated
error_asked live id code (Some t) old asking is seated =
    quiet live (due.Do (act.OfStream id (stream.Close why.Malformed)) ∷ []) old asking (closes_asked (live id) why.Malformed (is t refl) (λ e. cc), tt) refl (λ k. refl) seated

reset_asked : (live : ℕ → Option Kind) (id : ℕ) (o : Option Tunnel) (old : List Stream) (asking : ℕ → ℕ) → ((t : Tunnel) → o ≡ Some t → is_some (live id) ≡ true) → AreLive live old → Asked live (reset_acts id o) old asking
reset_asked live id None old asking is seated = quiet live [] old asking tt refl (λ k. refl) seated
reset_asked live id (Some t) old asking is seated =
    quiet live (due.Do (act.OfStream id (stream.Close why.Reset)) ∷ []) old asking (closes_asked (live id) why.Reset (is t refl) (λ e. cc), tt) refl (λ k. refl) seated

abbrev TunnelsLive : (ℕ → Option Kind) → List Tunnel → Type 0
TunnelsLive live ts = AllByRecursion (λ (t : Tunnel). is_some (live t.stream) ≡ true) ts

tunnel_live : (live : ℕ → Option Kind) (ts : List Tunnel) (id : ℕ) (t : Tunnel) → TunnelsLive live ts → find (λ (t : Tunnel). t.stream == id) ts ≡ Some t → is_some (live id) ≡ true
tunnel_live live ts id t h e =
    let there = found_each (λ (t : Tunnel). is_some (live t.stream) ≡ true) (λ (t : Tunnel). t.stream == id) ts t h e in
    ap (λ i. is_some (live i)) (sym (eqb-true t.stream id there.1)) ∙ there.0

stream_there : (live : ℕ → Option Kind) (ss : List Stream) (id : ℕ) (s : Stream) → AreLive live ss → stream_of ss id ≡ Some s → Live live s × (s.id ≡ id)
stream_there live ss id s seated e =
    let a = found_each (Live live) (λ (s : Stream). s.id == id) ss s seated e in
    (a.0, eqb-true s.id id a.1)

event_asked : (mtu : ℕ) (ts : List Tunnel) (live : ℕ → Option Kind) (old : List Stream) (e : StreamEvent) (n : ℕ → ℕ) (acts : List Due) (new : List Stream) → TunnelsLive live ts → AreLive live old
    → ((id : ℕ) → (one (asks_for id e) + n id) + one (is_some (live id)) ≤ 1) → EventAsks mtu ts old e acts new → Asked live acts new (λ id. one (asks_for id e))
event_asked mtu ts live old (Request id (Refused status rule) ends) n acts new tunnels seated free x =
    asked_same live acts (due.Do (act.Refuse id status rule) ∷ []) new old (λ k. one (id == k)) x.0 x.1
    (quiet live (due.Do (act.Refuse id status rule) ∷ []) old (λ k. one (id == k)) tt refl (λ k. refl) seated)
event_asked mtu ts live old (Request id (Leads found) ends) n acts new tunnels seated free x =
    let P : Bool → Type 0 = λ b. (one b + n id) + one (is_some (live id)) ≤ 1 in
    let Q : Bool → Type 0 = λ b. 1 ≤ one b in
    asked_same live acts (due.Do (goal_act id found) ∷ ended_acts id ends) new (old ++ record { id = id; goal = found; bytes = [] } ∷ []) (λ k. one (id == k)) x.0 x.1
    (leads_asked live id found ends old (λ k. one (id == k)) (once_free (live id) (n id) (subst P (itself id) (free id))) seated (λ k is. subst Q (sym is) (omega arith)))
event_asked mtu ts live old (Malformed id code) n acts new tunnels seated free x =
    let o = find (λ (t : Tunnel). t.stream == id) ts in
    asked_same live acts (error_acts id code o) new old (λ k. 0) x.0 x.1 (error_asked live id code o old (λ k. 0) (λ t e. tunnel_live live ts id t tunnels e) seated)
event_asked mtu ts live old (Content id bytes size ends) n acts new tunnels seated free x =
    asked_same live acts acts new (more_bytes id bytes old) (λ k. 0) refl x.1
    (content_asked mtu live id bytes size ends (stream_of old id) acts (more_bytes id bytes old) (λ k. 0) (λ s e. stream_there live old id s seated e) (more_live live id bytes old seated) x.0)
event_asked mtu ts live old (Reset id) n acts new tunnels seated free x =
    let o = find (λ (t : Tunnel). t.stream == id) ts in
    asked_same live acts (reset_acts id o) new old (λ k. 0) x.0 x.1 (reset_asked live id o old (λ k. 0) (λ t e. tunnel_live live ts id t tunnels e) seated)
event_asked mtu ts live old (ConnectionError code) n acts new tunnels seated free x =
    asked_same live acts (due.Fault code ∷ []) new old (λ k. 0) x.0 x.1 (quiet live (due.Fault code ∷ []) old (λ k. 0) tt refl (λ k. refl) seated)

-- ---- events in order

begins_asking : (e : Bool) → 1 ≤ one e → e ≡ true
begins_asking true h = refl
begins_asking false h = absurd (omega (arith, h))

both_opens : (xs ys : List Due) → NoOpens xs → NoOpens ys → NoOpens (xs ++ ys)
both_opens xs ys h k = any_append is_open xs ys ∙ ap (λ b. b || list_any is_open ys) h ∙ k

asked_both : (live : ℕ → Option Kind) (here later : List Due) (mid new : List Stream) (a n : ℕ → ℕ) → Asked live here mid a → Asked (then_live live here) later new n → Asked live (here ++ later) new (λ id. a id + n id)
asked_both live here later mid new a n h k = record {
  follows = follows_both live here later h.follows k.follows;
  opens = both_opens here later h.opens k.opens;
  seated = each_so (Live (then_live (then_live live here) later)) (Live (then_live live (here ++ later))) new (λ s seat. behind_both s.id here later (live s.id) ∙ seat) k.seated;
  begins = λ id is. by_first id (list_any (begins_on id) here) (h.begins id) (sym (any_append (begins_on id) here later) ∙ is);
}
  where
    by_first : (id : ℕ) (b : Bool) → (b ≡ true → 1 ≤ a id) → (b || list_any (begins_on id) later) ≡ true → 1 ≤ a id + n id
    by_first id true f is = let first = f refl in omega (arith, first)
    by_first id false f is = let second = k.begins id is in omega (arith, second)

events_asked : (mtu : ℕ) (ts : List Tunnel) (es : List StreamEvent) (live : ℕ → Option Kind) (old : List Stream) (acts : List Due) (new : List Stream) → TunnelsLive live ts → AreLive live old
    → AskOnce (λ id. is_some (live id)) es → EventsAsk mtu ts old es acts new → Asked live acts new (λ id. requests id es)
events_asked mtu ts [] live old acts new tunnels seated free x = asked_same live acts [] new old (λ id. 0) x.0 x.1 (quiet live [] old (λ id. 0) tt refl (λ k. refl) seated)
events_asked mtu ts (e ∷ es) live old acts new tunnels seated free x =
    let here = event_asked mtu ts live old e (λ id. requests id es) x.0 x.1 tunnels seated free x.3 in
    let live_then = then_live live x.0 in
    let still : TunnelsLive live_then ts = each_so (λ (t : Tunnel). is_some (live t.stream) ≡ true) (λ (t : Tunnel). is_some (live_then t.stream) ≡ true) ts
    (λ t k. behind_some t.stream x.0 (live t.stream) ∙ or_left (is_some (live t.stream)) (list_any (begins_on t.stream) x.0) k) tunnels in
    let once : AskOnce (λ id. is_some (live_then id)) es = λ id. subst (λ b. requests id es + one b ≤ 1) (sym (behind_some id x.0 (live id)))
    (once_later (asks_for id e) (is_some (live id)) (list_any (begins_on id) x.0) (requests id es) (λ is. begins_asking (asks_for id e) (here.begins id is)) (free id)) in
    let later = events_asked mtu ts es live_then x.1 x.2 new still here.seated once x.4 in
    asked_same live acts (x.0 ++ x.2) new new (λ id. requests id (e ∷ es)) x.5 refl (asked_both live x.0 x.2 x.1 new (λ id. one (asks_for id e)) (λ id. requests id es) here later)

-- ---- DATA that is to be consumed

abbrev marks_by : ℕ → ℕ → Option ℕ → ℕ
marks_by id on None = 0
marks_by id on (Some size) = cond (on == id) size 0

abbrev marks_on : ℕ → StreamEvent → ℕ
marks_on id (Request on meaning ends) = 0
marks_on id (Malformed on code) = 0
marks_on id (Content on bytes size ends) = marks_by id on size
marks_on id (Reset on) = 0
marks_on id (ConnectionError code) = 0

abbrev marks : ℕ → List StreamEvent → ℕ
marks id [] = 0
marks id (e ∷ es) = marks_on id e + marks id es

mark_spends : (id on : ℕ) (size : Option ℕ) → spends id (mark_of on size) ≡ marks_by id on size
mark_spends id on None = refl
mark_spends id on (Some n) = omega arith

stream_spends : (id on : ℕ) (asked : List StreamAct) (tail : List Due) → spends id (on_stream on asked ++ tail) ≡ spends id tail
stream_spends id on [] tail = refl
stream_spends id on (a ∷ asked) tail = let rest = stream_spends id on asked tail in omega (arith, rest)

content_spends : (mtu id on : ℕ) (bytes : List ℕ) (size : Option ℕ) (ends : Bool) (o : Option Stream) (acts : List Due) → ContentAsks mtu on bytes size ends o acts → spends id acts ≡ marks_by id on size
content_spends mtu id on bytes size ends None acts x = ap (spends id) x ∙ mark_spends id on size
content_spends mtu id on bytes size ends (Some s) acts x = ap (spends id) x.2 ∙ stream_spends id on x.0 (mark_of on size) ∙ mark_spends id on size

ended_spends : (id on : ℕ) (ends : Bool) → spends id (ended_acts on ends) ≡ 0
ended_spends id on true = omega arith
ended_spends id on false = refl

error_spends : (id on code : ℕ) (o : Option Tunnel) → spends id (error_acts on code o) ≡ 0
error_spends id on code None = omega arith
error_spends id on code (Some t) = omega arith

reset_spends : (id on : ℕ) (o : Option Tunnel) → spends id (reset_acts on o) ≡ 0
reset_spends id on None = refl
reset_spends id on (Some t) = omega arith

event_spends : (mtu id : ℕ) (ts : List Tunnel) (old : List Stream) (e : StreamEvent) (acts : List Due) (new : List Stream) → EventAsks mtu ts old e acts new → spends id acts ≡ marks_on id e
event_spends mtu id ts old (Request on (Refused status rule) ends) acts new x = ap (spends id) x.0 ∙ omega arith
event_spends mtu id ts old (Request on (Leads found) ends) acts new x = let last = ended_spends id on ends in ap (spends id) x.0 ∙ omega (arith, last)
event_spends mtu id ts old (Malformed on code) acts new x = ap (spends id) x.0 ∙ error_spends id on code (find (λ (t : Tunnel). t.stream == on) ts)
event_spends mtu id ts old (Content on bytes size ends) acts new x = content_spends mtu id on bytes size ends (stream_of old on) acts x.0
event_spends mtu id ts old (Reset on) acts new x = ap (spends id) x.0 ∙ reset_spends id on (find (λ (t : Tunnel). t.stream == on) ts)
event_spends mtu id ts old (ConnectionError code) acts new x = ap (spends id) x.0 ∙ omega arith

events_spend : (mtu id : ℕ) (ts : List Tunnel) (es : List StreamEvent) (old : List Stream) (acts : List Due) (new : List Stream) → EventsAsk mtu ts old es acts new → spends id acts ≡ marks id es
events_spend mtu id ts [] old acts new x = ap (spends id) x.0
events_spend mtu id ts (e ∷ es) old acts new x =
    let here = event_spends mtu id ts old e x.0 x.1 x.3 in
    let later = events_spend mtu id ts es x.1 x.2 new x.4 in
    let both = spends_append id x.0 x.2 in
    ap (spends id) x.5 ∙ omega (arith, here, later, both)

-- ---- frames

abbrev asked_in : ℕ → List http2.StreamEvent → ℕ
asked_in id [] = 0
asked_in id (e ∷ es) = one (asks id e) + asked_in id es

counted : (id : ℕ) (told : List http2.StreamEvent) → asked_in id told ≡ count_by (asks id) told
counted id told = is_count_by (asked_in id) (asks id) refl (λ e es. step (asks id e) (asked_in id es)) told
  where
    step : (b : Bool) (n : ℕ) → one b + n ≡ cond b (1 + n) n
    step true n = refl
    step false n = omega arith

request_same : (setup : Setup) (id : ℕ) (f : http2.StreamEvent) (e : StreamEvent) → EventBrings setup f e → asks_for id e ≡ asks id f
request_same setup id (frame_event.Request on fields ends) e x = ap (asks_for id) x.2
request_same setup id (frame_event.Malformed on code) e x = ap (asks_for id) x
request_same setup id (frame_event.Content on bytes size ends) e x = ap (asks_for id) x
request_same setup id (frame_event.Reset on code) e x = ap (asks_for id) x
request_same setup id (frame_event.ConnectionError code) e x = ap (asks_for id) x

requests_same : (setup : Setup) (id : ℕ) (told : List http2.StreamEvent) (es : List StreamEvent) → EventsBring setup told es → requests id es ≡ asked_in id told
requests_same setup id [] es x = ap (requests id) x
requests_same setup id (f ∷ told) es x =
    let here = ap one (request_same setup id f x.0 x.2) in
    let later = requests_same setup id told x.1 x.3 in
    ap (requests id) x.4 ∙ omega (arith, here, later)

mark_same : (setup : Setup) (id : ℕ) (f : http2.StreamEvent) (e : StreamEvent) → EventBrings setup f e → marks_on id e ≡ told_on id f
mark_same setup id (frame_event.Request on fields ends) e x = ap (marks_on id) x.2
mark_same setup id (frame_event.Malformed on code) e x = ap (marks_on id) x
mark_same setup id (frame_event.Content on bytes size ends) e x = ap (marks_on id) x
mark_same setup id (frame_event.Reset on code) e x = ap (marks_on id) x
mark_same setup id (frame_event.ConnectionError code) e x = ap (marks_on id) x

marks_same : (setup : Setup) (id : ℕ) (told : List http2.StreamEvent) (es : List StreamEvent) → EventsBring setup told es → marks id es ≡ told_in id told
marks_same setup id [] es x = ap (marks id) x
marks_same setup id (f ∷ told) es x =
    let here = mark_same setup id f x.0 x.2 in
    let later = marks_same setup id told x.1 x.3 in
    ap (marks id) x.4 ∙ omega (arith, here, later)

-- ---- what a read needs, and where it leads

abbrev WhatComes : ℕ → List Tunnel → List Stream → List StreamEvent → Front → Type 0
WhatComes mtu ts ss es front =
    AskOnce (has_on ts) es
    × ((acts : List Due) (new : List Stream) → EventsAsk mtu ts ss es acts new → Asked (kind_on ts) acts new (λ id. requests id es) → Fits front None acts ts new)

has_each : (P : ℕ → Type 0) (ts : List Tunnel) (id : ℕ) → AllByRecursion (λ (t : Tunnel). P t.stream) ts → has_on ts id ≡ true → P id
has_each P ts id h has = by_found (find (λ (t : Tunnel). t.stream == id) ts) has (λ t e. found_each (λ (t : Tunnel). P t.stream) (λ (t : Tunnel). t.stream == id) ts t h e)
  where
    by_found : (o : Option Tunnel) → is_some o ≡ true → ((t : Tunnel) → o ≡ Some t → P t.stream × ((t.stream == id) ≡ true)) → P id
    by_found None some is = absurd cc
    by_found (Some t) some is = let there = is t refl in subst P (eqb-true t.stream id there.1) there.0

once_by : (has may after : Bool) (n : ℕ) → (has ≡ true → may ≡ false) → n + one after ≤ one may → n + one has ≤ 1
once_by true true after n f h = absurd (let e : true ≡ false = f refl in nothing e)
  where
    nothing : true ≡ false → ⊥
    nothing e = cc
once_by true false after n f h = omega (arith, h)
once_by false true after n f h = omega (arith, h)
once_by false false after n f h = omega (arith, h)

-- none can come any more
none_comes : (may after : Bool) (n : ℕ) → may ≡ false → n + one after ≤ one may → after ≡ false
none_comes may false n e h = refl
none_comes true true n e h = absurd cc
none_comes false true n e h = absurd (omega (arith, h))

one_came : (may after : Bool) (n : ℕ) → 1 ≤ n → n + one after ≤ one may → after ≡ false
one_came may false n e h = refl
one_came true true n e h = absurd (omega (arith, e, h))
one_came false true n e h = absurd (omega (arith, e, h))

frames_come : (setup : Setup) (old : h2.State) (bytes : List ℕ) (es : List StreamEvent) (text : List ℕ) (new : Front) (ts : List Tunnel) (ss : List Stream) → IsAskedOnce → IsTold
    → Http2Fits old [] ts → FramesBring setup old bytes es text new → WhatComes setup.mtu ts ss es new
frames_come setup old bytes es text new ts ss asked_once is_told h x =
    let same : (id : ℕ) → requests id es ≡ count_by (asks id) x.told = λ id. requests_same setup id x.told es x.brings ∙ counted id x.told in
    let within : (id : ℕ) → requests id es + one (may_come id x.next) ≤ one (may_come id old) = λ id. (let s = same id in let w = asked_once old bytes x.told x.next id x.reads in omega (arith, s, w)) in
    let P : ℕ → Type 0 = λ id. may_come id old ≡ false in
    let fits : (acts : List Due) (streams : List Stream) → EventsAsk setup.mtu ts ss es acts streams → Asked (kind_on ts) acts streams (λ id. requests id es) → Http2Fits (record x.next { out = [] }) acts ts =
    λ acts streams asks asked. record {
      tunnels = each_so (λ (t : Tunnel). may_come t.stream old ≡ false) (λ (t : Tunnel). may_come t.stream x.next ≡ false) ts
          (λ t k. none_comes (may_come t.stream old) (may_come t.stream x.next) (requests t.stream es) k (within t.stream)) h.tunnels;
      dues = λ id is. one_came (may_come id old) (may_come id x.next) (requests id es) (asked.begins id is) (within id);
      spends = λ id. (
          let a = events_spend setup.mtu id ts es ss acts streams asks ∙ marks_same setup id x.told es x.brings in
          let b = is_told old bytes x.told x.next id x.reads in
          let c = h.spends id in
          omega (arith, a, b, c)
          );
    } in
    let Q : Front → Type 0 = λ front. (acts : List Due) (streams : List Stream) → EventsAsk setup.mtu ts ss es acts streams → Asked (kind_on ts) acts streams (λ id. requests id es) → Fits front None acts ts streams in (
      λ id. once_by (has_on ts id) (may_come id old) (may_come id x.next) (requests id es) (λ has. has_each P ts id h.tunnels has) (within id),
      subst Q (sym x.new_is) fits,
    )

-- ---- heads, and data over HTTP/1.1

abbrev AreZero : List Stream → Type 0
AreZero ss = AllByRecursion (λ (s : Stream). s.id ≡ 0) ss

on_zero : (asked : List StreamAct) (tail : List Due) → AllByRecursion IsOfZero tail → AllByRecursion IsOfZero (on_stream 0 asked ++ tail)
on_zero [] tail h = h
on_zero (a ∷ asked) tail h = (refl, on_zero asked tail h)

content_zero : (mtu : ℕ) (bytes : List ℕ) (o : Option Stream) (acts : List Due) → ContentAsks mtu 0 bytes None false o acts → AllByRecursion IsOfZero acts
content_zero mtu bytes None acts x = subst (λ (ds : List Due). AllByRecursion IsOfZero ds) (sym x) tt
content_zero mtu bytes (Some s) acts x = subst (λ (ds : List Due). AllByRecursion IsOfZero ds) (sym x.2) (on_zero x.0 [] tt)

bytes_zero : (mtu : ℕ) (ts : List Tunnel) (bytes : List ℕ) (old : List Stream) (acts : List Due) (new : List Stream) → AreZero old → EventsAsk mtu ts old (content_of bytes) acts new → AllByRecursion IsOfZero acts × AreZero new
bytes_zero mtu ts [] old acts new h x = (subst (λ (ds : List Due). AllByRecursion IsOfZero ds) (sym x.0) tt, subst AreZero (sym x.1) h)
bytes_zero mtu ts (b ∷ bytes) old acts new h x =
    let here : AllByRecursion IsOfZero x.0 = content_zero mtu (b ∷ bytes) (stream_of old 0) x.0 x.3.0 in
    let all : acts ≡ x.0 = x.5 ∙ ap (λ (ds : List Due). x.0 ++ ds) x.4.0 ∙ append-nil x.0 in (
      subst (λ (ds : List Due). AllByRecursion IsOfZero ds) (sym all) here,
      subst AreZero (sym (x.4.1 ∙ x.3.1)) (more_zero 0 (b ∷ bytes) old h),
    )

-- over HTTP/1.1 only one request came
one_request : (n : ℕ) (has : Bool) → has ≡ false → n ≡ 0 → (b : Bool) → (one b + n) + one has ≤ 1
one_request n true h k b = absurd cc
one_request n false h k true = omega (arith, k)
one_request n false h k false = omega (arith, k)

content_requests : (id : ℕ) (bytes : List ℕ) → requests id (content_of bytes) ≡ 0
content_requests id [] = refl
content_requests id (b ∷ bytes) = omega arith

http1_used : (ts : List Tunnel) (acts : List Due) → has_on ts 0 ≡ true → IsUsed None acts ts
http1_used ts [] h = h
http1_used ts (d ∷ acts) h = tt

has_most : (b : Bool) → one b ≤ 1
has_most true = omega arith
has_most false = omega arith

http1_come : (mtu : ℕ) (bytes : List ℕ) (ts : List Tunnel) (ss : List Stream) → Http1Fits None [] ts ss → WhatComes mtu ts ss (content_of bytes) OverHttp1
http1_come mtu bytes ts ss h = (
  λ id. (let none = content_requests id bytes in let most = has_most (has_on ts id) in omega (arith, none, most)),
  λ acts new asks asked. (let zero = bytes_zero mtu ts bytes ss acts new h.streams asks in record {
    due = zero_request acts zero.0;
    used = http1_used ts acts h.used;
    tunnels = h.tunnels;
    streams = zero.1;
  }),
)

none_on : (ts : List Tunnel) → ts ≡ [] → (id : ℕ) → has_on ts id ≡ false
none_on ts none id = ap (λ (ts : List Tunnel). has_on ts id) none

-- a request with its data behind
request_first : (id : ℕ) (found : Goal) (rest : List Due) → id ≡ 0 → AllByRecursion IsOfZero rest → IsOneRequest (due.Do (goal_act id found) ∷ rest)
request_first id (goal.Udp addr port) rest h k = (h, k)
request_first id (goal.Ip area protocol) rest h k = (h, k)

used_some : (ts : List Tunnel) (d : Due) (rest acts : List Due) → acts ≡ d ∷ rest → IsUsed None acts ts
used_some ts d rest acts e = subst (λ (ds : List Due). IsUsed None ds ts) (sym e) tt

upgrade_fits : (mtu : ℕ) (meaning : Meaning) (bytes : List ℕ) (ts : List Tunnel) (ss : List Stream) (acts : List Due) (new : List Stream) → ts ≡ [] → ss ≡ [] → EventsAsk mtu ts ss (Request 0 meaning false ∷ content_of bytes) acts new
    → Http1Fits None acts ts new
upgrade_fits mtu (Leads found) bytes ts ss acts new none empty x =
    let mid : x.1 ≡ ss ++ record { id = 0; goal = found; bytes = [] } ∷ [] = x.3.1 in
    let zeros : AreZero x.1 = subst AreZero (sym (mid ∙ ap (λ (ss : List Stream). ss ++ record { id = 0; goal = found; bytes = [] } ∷ []) empty)) (refl, tt) in
    let later = bytes_zero mtu ts bytes x.1 x.2 new zeros x.4 in
    let all : acts ≡ due.Do (goal_act 0 found) ∷ x.2 = x.5 ∙ ap (λ (ds : List Due). ds ++ x.2) x.3.0 in
    record {
      due = subst IsOneRequest (sym all) (request_first 0 found x.2 refl later.0);
      used = used_some ts (due.Do (goal_act 0 found)) x.2 acts all;
      tunnels = subst (λ (ts : List Tunnel). AllByRecursion (λ (t : Tunnel). t.stream ≡ 0) ts) (sym none) tt;
      streams = later.1;
    }
upgrade_fits mtu (Refused status rule) bytes ts ss acts new none empty x =
    let zeros : AreZero x.1 = subst AreZero (sym (x.3.1 ∙ empty)) tt in
    let later = bytes_zero mtu ts bytes x.1 x.2 new zeros x.4 in
    let all : acts ≡ due.Do (act.Refuse 0 status rule) ∷ x.2 = x.5 ∙ ap (λ (ds : List Due). ds ++ x.2) x.3.0 in
    record {
      due = subst IsOneRequest (sym all) (refl, later.0);
      used = used_some ts (due.Do (act.Refuse 0 status rule)) x.2 acts all;
      tunnels = subst (λ (ts : List Tunnel). AllByRecursion (λ (t : Tunnel). t.stream ≡ 0) ts) (sym none) tt;
      streams = later.1;
    }

upgrade_comes : (mtu : ℕ) (meaning : Meaning) (bytes : List ℕ) (ts : List Tunnel) (ss : List Stream) → ts ≡ [] → ss ≡ [] → WhatComes mtu ts ss (Request 0 meaning false ∷ content_of bytes) OverHttp1
upgrade_comes mtu meaning bytes ts ss none empty = (
  λ id. one_request (requests id (content_of bytes)) (has_on ts id) (none_on ts none id) (content_requests id bytes) (0 == id),
  λ acts new asks asked. upgrade_fits mtu meaning bytes ts ss acts new none empty asks,
)

-- nothing came
nothing_comes : (mtu : ℕ) (known : List ℕ) (ts : List Tunnel) (ss : List Stream) → ts ≡ [] → ss ≡ [] → WhatComes mtu ts ss [] (Head known)
nothing_comes mtu known ts ss none empty = (
  λ id. (let most = has_most (has_on ts id) in omega (arith, most)),
  λ acts new asks asked. (asks.0, none, asks.1 ∙ empty),
)

comes_same : (mtu : ℕ) (ts : List Tunnel) (ss : List Stream) (es es2 : List StreamEvent) (f g : Front) → es ≡ es2 → f ≡ g → WhatComes mtu ts ss es2 g → WhatComes mtu ts ss es f
comes_same mtu ts ss es es2 f g e k h =
    let P : List StreamEvent → Type 0 = λ es. WhatComes mtu ts ss es g in
    let Q : Front → Type 0 = λ f. WhatComes mtu ts ss es f in
    subst Q (sym k) (subst P (sym e) h)

step_comes : (setup : Setup) → (before bytes : List ℕ) (step : HeadStep) (es : List StreamEvent) (front : Front) (ts : List Tunnel) (ss : List Stream) → ts ≡ [] → ss ≡ []
    → StepBrings setup before bytes step es front → WhatComes setup.mtu ts ss es front
step_comes setup before bytes More es front ts ss none empty x = comes_same setup.mtu ts ss es [] front (Head (before ++ bytes)) x.0 x.1 (nothing_comes setup.mtu (before ++ bytes) ts ss none empty)
step_comes setup before bytes (Refuse status) es front ts ss none empty x =
    comes_same setup.mtu ts ss es (Request 0 (Refused status 0) false ∷ []) front OverHttp1 x.0 x.1 (upgrade_comes setup.mtu (Refused status 0) [] ts ss none empty)
step_comes setup before bytes (Upgrade kind path used) es front ts ss none empty x =
    comes_same setup.mtu ts ss es (Request 0 x.0 false ∷ content_of (drop used bytes)) front OverHttp1 x.2 x.3
    (upgrade_comes setup.mtu x.0 (drop used bytes) ts ss none empty)

other_comes : (setup : Setup) → (o : Opening) (before bytes : List ℕ) (es : List StreamEvent) (front : Front) (ts : List Tunnel) (ss : List Stream) → ts ≡ [] → ss ≡ []
    → OtherBrings setup o before bytes es front → WhatComes setup.mtu ts ss es front
other_comes setup Part before bytes es front ts ss none empty x = step_comes setup [] (before ++ bytes) x.0 es front ts ss none empty x.2
other_comes setup (Whole frames) before bytes es front ts ss none empty x = step_comes setup before bytes x.0 es front ts ss none empty x.2
other_comes setup Other before bytes es front ts ss none empty x = step_comes setup before bytes x.0 es front ts ss none empty x.2

new_fits : (ts : List Tunnel) → ts ≡ [] → Http2Fits h2.new_state [] ts
new_fits ts none = record {
  tunnels = subst (λ (ts : List Tunnel). AllByRecursion (λ (t : Tunnel). may_come t.stream h2.new_state ≡ false) ts) (sym none) tt;
  dues = λ id is. absurd cc;
  spends = λ id. omega arith;
}

opening_comes : (setup : Setup) → IsAskedOnce → IsTold → (o : Opening) (before bytes : List ℕ) (es : List StreamEvent) (text : List ℕ) (front : Front) (ts : List Tunnel) (ss : List Stream) → ts ≡ [] → ss ≡ []
    → OpeningBrings setup o before bytes es text front → WhatComes setup.mtu ts ss es front
opening_comes setup asked_once is_told Part before bytes es text front ts ss none empty x =
    comes_same setup.mtu ts ss es [] front (Head (before ++ bytes)) x.0 x.2 (nothing_comes setup.mtu (before ++ bytes) ts ss none empty)
opening_comes setup asked_once is_told (Whole frames) before bytes es text front ts ss none empty x =
    frames_come setup h2.new_state frames es text front ts ss asked_once is_told (new_fits ts none) x
opening_comes setup asked_once is_told Other before bytes es text front ts ss none empty x = other_comes setup (opening_of before) before bytes es front ts ss none empty x.0

read_comes : (setup : Setup) → IsAskedOnce → IsTold → (old : Front) (bytes : List ℕ) (es : List StreamEvent) (text : List ℕ) (new : Front) (ts : List Tunnel) (ss : List Stream)
    → Fits old None [] ts ss → Brings setup old bytes es text new → WhatComes setup.mtu ts ss es new
read_comes setup asked_once is_told (Head before) bytes es text new ts ss h x = opening_comes setup asked_once is_told (opening_of (before ++ bytes)) before bytes es text new ts ss h.1 h.2 x
read_comes setup asked_once is_told OverHttp1 bytes es text new ts ss h x = comes_same setup.mtu ts ss es (content_of bytes) new OverHttp1 x.0 x.2 (http1_come setup.mtu bytes ts ss h)
read_comes setup asked_once is_told (OverHttp2 s) bytes es text new ts ss h x = frames_come setup s bytes es text new ts ss asked_once is_told h x

-- ---- a read

each_in : (P : Tunnel → Type 0) (ts : List Tunnel) → ((t : Tunnel) → In t ts → P t) → AllByRecursion P ts
each_in P [] f = tt
each_in P (t ∷ ts) f = (f t (inl refl), each_in P ts (λ u i. f u (inr i)))

read_loose : (setup : Setup) → IsAskedOnce → IsTold → (bytes : List ℕ) (es : List StreamEvent) (text : List ℕ) (old new : Front) (ts : List Tunnel) (ss : List Stream) (acts : List Due) (streams : List Stream)
    → Loose None [] ts ss old → Brings setup old bytes es text new → EventsAsk setup.mtu ts ss es acts streams → Loose None acts ts streams new × NoOpens acts
read_loose setup asked_once is_told bytes es text old new ts ss acts streams h brings asks =
    let comes = read_comes setup asked_once is_told old bytes es text new ts ss h.front brings in
    let live : TunnelsLive (kind_on ts) ts = each_in (λ (t : Tunnel). is_some (kind_on ts t.stream) ≡ true) ts (λ t i. kind_there ts t.stream ∙ in_has ts t i) in
    let once : AskOnce (λ id. is_some (kind_on ts id)) es = λ id. subst (λ b. requests id es + one b ≤ 1) (sym (kind_there ts id)) (comes.0 id) in
    let asked = events_asked setup.mtu ts es (kind_on ts) ss acts streams live h.seated once asks in (
      record {
        over = tt;
        follows = asked.follows;
        opens = none_dropped is_open acts asked.opens;
        seated = asked.seated;
        alone = h.alone;
        numbered = h.numbered;
        front = comes.1 acts streams asks asked;
      },
      asked.opens,
    )

pub took_loose : (setup : Setup) (c : Conn) (bytes : List ℕ) (es : List StreamEvent) (text : List ℕ) (front : Front) (acts : List Due) (streams : List Stream) → IsAskedOnce → IsTold → IsLawful c
    → can_read c ≡ true → Brings setup c.front bytes es text front → EventsAsk setup.mtu c.tunnels c.streams es acts streams
    → IsLoose (record c { front = front; streams = streams; due = acts; out = c.out ++ text }) × NoOpens acts
took_loose setup c bytes es text front acts streams asked_once is_told h can brings asks =
    let idle = reads_idle c h can in
    let P : List Due → Type 0 = λ ds. Loose c.ending ds c.tunnels c.streams c.front in
    let Q : Option End → Type 0 = λ e. Loose e [] c.tunnels c.streams c.front in
    let R : Option End → Type 0 = λ e. Loose e acts c.tunnels streams front in
    let old = subst Q idle.ending (subst P idle.due h.loose) in
    let new = read_loose setup asked_once is_told bytes es text c.front front c.tunnels c.streams acts streams old brings asks in
    (subst R (sym idle.ending) new.0, new.1)

pub took_lawful : (setup : Setup) (c : Conn) (bytes : List ℕ) (d : Conn) → IsAskedOnce → IsTold → IsLawful c → TookNext setup c bytes d → IsLawful d
took_lawful setup c bytes d asked_once is_told h x =
    let l = took_loose setup c bytes x.events x.text x.front x.acts x.streams asked_once is_told h x.can x.brings x.asks in
    subst IsLawful (sym x.new_is) (settle_lawful (record c { front = x.front; streams = x.streams; due = x.acts; out = c.out ++ x.text }) l.0)
