-- What a read leaves of a payload: it is due, or may still come, or what else counts for it.
use Rattle.std.proofs.Common.{◌≡◌, ◌≤◌, ◌+◌, ◌⊎◌, ℕ, Bool, true, false, cond, List, [], ◌∷◌, ◌++◌, Option, Some, None, option_map, refl, sym, subst, ap, ◌∙◌, arith, inl, inr}
use Rattle.std.specs.Prelude.{◌==◌}
use Rattle.std.specs.Option.{is_some}
use Rattle.std.proofs.lemmas.Bool.{eqb-true, le-leb}
use Rattle.mq_capsule.specs.Items.{ItemsOf}
use Rattle.mq_talk.specs.declared.note.Note.{Note}
use Rattle.mq_machine.specs.declared.act.StreamAct.{StreamAct}
use Rattle.mq_machine.specs.declared.act.Due.{Due}
use Rattle.mq_machine.specs.declared.setup.Setup.{Setup}
use Rattle.mq_machine.specs.Lawful.{IsLawful}
use Rattle.mq_machine.specs.Reading.{StreamEvent, Request, Malformed, Content, Reset, ConnectionError, Leads, Refused, payload_count, on_stream, has_values, BytesAsk, stream_of, more_bytes, mark_of, ContentAsks, EventAsks, EventsAsk, TookNext}
use Rattle.mq_machine.specs.Settle.{settle}
use Rattle.mq_machine.specs.State.{Conn, Stream, Tunnel}
use Rattle.mq_machine.proofs.Lawful.Idle.{reads_idle}
use Rattle.mq_runs.proofs.Bringing.{closes_all}
use Rattle.mq_runs.proofs.Flight.{Key, due_asks, asked_on, count_of}
use Rattle.mq_runs.proofs.Sums.{total_append}
use Rattle.mq_runs.proofs.Took.{from_on, asks_all, to_come, on_few}
use Rattle.mq_runs.proofs.Ups.{close_act, closes_on, closing, coming, StepAt, step_lifts, settle_lifts}

-- where no bytes say nothing, and of each data stream, for the bytes that come, as much is asked as there was
module _ (k : Key) (closers : Bool) (extra : Stream → ℕ) (nothing : (control : Bool) → ItemsOf control [] [])
    (many : (mtu : ℕ) (s : Stream) (bytes : List ℕ) (ends : Bool) (acts : List StreamAct) → BytesAsk mtu s bytes ends acts → to_come k s + extra s ≤ asks_all k acts + closes_all closers acts + (to_come k (record s { bytes = s.bytes ++ bytes }) + extra (record s { bytes = s.bytes ++ bytes })))
  where
    -- ---- events

    on_closing : (id on : ℕ) (acts : List StreamAct) → closing closers id (on_stream on acts) ≡ cond (on == id) (closes_all closers acts) 0
    on_closing id on [] = none (on == id) where
      none : (b : Bool) → ◌≡◌ {A = ℕ} 0 (cond b 0 0)
      none true = refl
      none false = refl
    on_closing id on (a ∷ acts) = let rest = on_closing id on acts in let here = both (on == id) (close_act closers a) (closes_all closers acts) in omega (arith, rest, here) where
      both : (b : Bool) (m n : ℕ) → cond b m 0 + cond b n 0 ≡ cond b (m + n) 0
      both true m n = refl
      both false m n = omega arith

    marks_open : (id on : ℕ) (size : Option ℕ) → closing closers id (mark_of on size) ≡ 0
    marks_open id on None = refl
    marks_open id on (Some n) = refl

    -- what stands on a stream behind events that ask for this
    abbrev stands : ℕ → List Due → List Stream → ℕ
    stands on acts new = asked_on k on acts + closing closers on acts + coming k closers extra (stream_of new on)

    abbrev Stays : ℕ → List Stream → List Due → List Stream → Type 0
    Stays on old acts new = is_some (stream_of new on) ≡ true → (1 ≤ stands on acts new) ⊎ ((is_some (stream_of old on) ≡ true) × (coming k closers extra (stream_of old on) ≤ stands on acts new))

    same_stays : (on : ℕ) (old : List Stream) (acts : List Due) (new : List Stream) → new ≡ old → Stays on old acts new
    same_stays on old acts new same some =
        let comes = ap (λ (ss : List Stream). coming k closers extra (stream_of ss on)) same in
        inr (subst (λ (ss : List Stream). is_some (stream_of ss on) ≡ true) same some, omega (arith, comes))

    append_by : (b : Bool) (on : ℕ) (r s : Stream) (ss : List Stream) → (stream_of (ss ++ s ∷ []) on ≡ stream_of ss on) ⊎ ((stream_of ss on ≡ None) × (stream_of (ss ++ s ∷ []) on ≡ cond (s.id == on) (Some s) None))
        → (cond b (Some r) (stream_of (ss ++ s ∷ []) on) ≡ cond b (Some r) (stream_of ss on)) ⊎ ((cond b (Some r) (stream_of ss on) ≡ None) × (cond b (Some r) (stream_of (ss ++ s ∷ []) on) ≡ cond (s.id == on) (Some s) None))
    append_by true on r s ss rest = inl refl
    append_by false on r s ss rest = rest

    append_stream : (on : ℕ) (s : Stream) (ss : List Stream) → (stream_of (ss ++ s ∷ []) on ≡ stream_of ss on) ⊎ ((stream_of ss on ≡ None) × (stream_of (ss ++ s ∷ []) on ≡ cond (s.id == on) (Some s) None))
    append_stream on s [] = inr (refl, refl)
    append_stream on s (r ∷ ss) = append_by (r.id == on) on r s ss (append_stream on s ss)

    -- of a new data stream each payload may come
    new_comes : (s : Stream) → s.bytes ≡ [] → to_come k s ≡ 1
    new_comes s empty =
        let control = has_values s.goal in
        let first = k.readable control s.bytes in
        let none : ItemsOf control s.bytes [] = subst (λ (bytes : List ℕ). ItemsOf control bytes []) (sym empty) (nothing control) in
        let count : count_of k s ≡ 0 = ap payload_count (k.once control s.bytes first.0 [] first.1 none) in
        let yes = le-leb 0 k.number (omega arith) in
        let all : from_on 0 k.number ≡ 1 = ap (λ b. cond b 1 0) yes in
        let same = ap (λ j. from_on j k.number) count in
        omega (arith, all, same)

    one_of : (b : Bool) (s : Stream) → is_some (cond b (Some s) None) ≡ true → coming k closers extra (cond b (Some s) None) ≡ to_come k s + extra s
    one_of true s e = refl
    one_of false s e = absurd cc

    leads_stays : (on : ℕ) (old : List Stream) (acts : List Due) (s : Stream) (new : List Stream) → s.bytes ≡ [] → new ≡ old ++ s ∷ [] → Stays on old acts new
    leads_stays on old acts s new empty is some = elim (append_stream on s old) [
      | inl same ↦ (
          let all = ap (λ (ss : List Stream). stream_of ss on) is ∙ same in
          let comes = ap (coming k closers extra) all in
          inr (sym (ap is_some all) ∙ some, omega (arith, comes)))
      | inr (none, now) ↦ (
          let all = ap (λ (ss : List Stream). stream_of ss on) is ∙ now in
          let comes = ap (coming k closers extra) all ∙ one_of (s.id == on) s (sym (ap is_some all) ∙ some) in
          let first = new_comes s empty in
          inl (omega (arith, comes, first)))
    ]

    more_by : (b c : Bool) (id on : ℕ) (bytes : List ℕ) (s : Stream) (ss : List Stream) → (s.id == id) ≡ b → (id == on) ≡ c
        → stream_of (more_bytes id bytes ss) on ≡ cond c (option_map (λ (s : Stream). record s { bytes = s.bytes ++ bytes }) (stream_of ss on)) (stream_of ss on)
        → stream_of (cond b (record s { bytes = s.bytes ++ bytes } ∷ ss) (s ∷ more_bytes id bytes ss)) on ≡ cond c (option_map (λ (s : Stream). record s { bytes = s.bytes ++ bytes }) (stream_of (s ∷ ss) on)) (stream_of (s ∷ ss) on)
    more_by true true id on bytes s ss x y rest =
        let yes : (s.id == on) ≡ true = ap (λ i. i == on) (eqb-true s.id id x) ∙ y in
        ap (λ b. cond b (Some (record s { bytes = s.bytes ++ bytes })) (stream_of ss on)) yes ∙ sym (ap (λ b. option_map (λ (s : Stream). record s { bytes = s.bytes ++ bytes }) (cond b (Some s) (stream_of ss on))) yes)
    more_by true false id on bytes s ss x y rest =
        let no : (s.id == on) ≡ false = ap (λ i. i == on) (eqb-true s.id id x) ∙ y in
        ap (λ b. cond b (Some (record s { bytes = s.bytes ++ bytes })) (stream_of ss on)) no ∙ sym (ap (λ b. cond b (Some s) (stream_of ss on)) no)
    more_by false true id on bytes s ss x y rest =
        let no : (s.id == on) ≡ false = ap (λ i. s.id == i) (sym (eqb-true id on y)) ∙ x in
        ap (λ b. cond b (Some s) (stream_of (more_bytes id bytes ss) on)) no ∙ (rest ∙ sym (ap (λ b. option_map (λ (s : Stream). record s { bytes = s.bytes ++ bytes }) (cond b (Some s) (stream_of ss on))) no))
    more_by false false id on bytes s ss x y rest = ap (λ o. cond (s.id == on) (Some s) o) rest

    more_stream : (c : Bool) (id on : ℕ) (bytes : List ℕ) (ss : List Stream) → (id == on) ≡ c
        → stream_of (more_bytes id bytes ss) on ≡ cond c (option_map (λ (s : Stream). record s { bytes = s.bytes ++ bytes }) (stream_of ss on)) (stream_of ss on)
    more_stream true id on bytes [] y = refl
    more_stream false id on bytes [] y = refl
    more_stream c id on bytes (s ∷ ss) y = more_by (s.id == id) c id on bytes s ss refl y (more_stream c id on bytes ss y)

    -- of the data stream that gets more
    own_stays : (mtu id on : ℕ) (bytes : List ℕ) (size : Option ℕ) (ends : Bool) (old : List Stream) (o : Option Stream) (acts : List Due) → (id == on) ≡ true → stream_of old on ≡ o → ContentAsks mtu id bytes size ends o acts
        → stream_of (more_bytes id bytes old) on ≡ option_map (λ (s : Stream). record s { bytes = s.bytes ++ bytes }) o → Stays on old acts (more_bytes id bytes old)
    own_stays mtu id on bytes size ends old None acts at is x now some = absurd (let no = sym (ap is_some now) ∙ some in cc)
    own_stays mtu id on bytes size ends old (Some s) acts at is x now some =
        let many = many mtu s bytes ends x.0 x.1 in
        let asked = ap (asked_on k on) x.2 ∙ total_append (due_asks k on) (on_stream id x.0) (mark_of id size) in
        let close = ap (closing closers on) x.2 ∙ total_append (closes_on closers on) (on_stream id x.0) (mark_of id size) in
        let asks_here = on_few k on id x.0 ∙ ap (λ b. cond b (asks_all k x.0) 0) at in
        let closes_here = on_closing on id x.0 ∙ ap (λ b. cond b (closes_all closers x.0) 0) at in
        let was = ap (coming k closers extra) is in
        let then = ap (coming k closers extra) now in
        inr (ap is_some is, omega (arith, many, asked, close, asks_here, closes_here, was, then))

    content_stays : (c : Bool) (mtu id on : ℕ) (bytes : List ℕ) (size : Option ℕ) (ends : Bool) (old : List Stream) (acts : List Due) → (id == on) ≡ c → ContentAsks mtu id bytes size ends (stream_of old id) acts → Stays on old acts (more_bytes id bytes old)
    content_stays true mtu id on bytes size ends old acts at x =
        let same : id ≡ on = eqb-true id on at in
        own_stays mtu id on bytes size ends old (stream_of old id) acts at (ap (λ i. stream_of old i) (sym same)) x
        (more_stream true id on bytes old at ∙ ap (λ i. option_map (λ (s : Stream). record s { bytes = s.bytes ++ bytes }) (stream_of old i)) (sym same))
    content_stays false mtu id on bytes size ends old acts at x = λ some.
        let same = more_stream false id on bytes old at in
        let comes = ap (coming k closers extra) same in
        inr (sym (ap is_some same) ∙ some, omega (arith, comes))

    event_stays : (on mtu : ℕ) (ts : List Tunnel) (old : List Stream) (e : StreamEvent) (acts : List Due) (new : List Stream) → EventAsks mtu ts old e acts new → Stays on old acts new
    event_stays on mtu ts old (Request id (Refused status rule) ends) acts new x = same_stays on old acts new x.1
    event_stays on mtu ts old (Request id (Leads found) ends) acts new x = leads_stays on old acts (record { id = id; goal = found; bytes = [] }) new refl x.1
    event_stays on mtu ts old (Malformed id code) acts new x = same_stays on old acts new x.1
    event_stays on mtu ts old (Content id bytes size ends) acts new x = subst (λ (ss : List Stream). Stays on old acts ss) (sym x.1) (content_stays (id == on) mtu id on bytes size ends old acts refl x.0)
    event_stays on mtu ts old (Reset id) acts new x = same_stays on old acts new x.1
    event_stays on mtu ts old (ConnectionError code) acts new x = same_stays on old acts new x.1

    both_stays : (on : ℕ) (old mid new : List Stream) (here later acts : List Due) → acts ≡ here ++ later → Stays on old here mid → Stays on mid later new → Stays on old acts new
    both_stays on old mid new here later acts is first second some =
        let asked = ap (asked_on k on) is ∙ total_append (due_asks k on) here later in
        let close = ap (closing closers on) is ∙ total_append (closes_on closers on) here later in
        elim (second some) [
          | inl one ↦ inl (omega (arith, asked, close, one))
          | inr (there, less) ↦ elim (first there) [
            | inl one ↦ inl (omega (arith, asked, close, one, less))
            | inr (was, least) ↦ inr (was, omega (arith, asked, close, less, least))
          ]
        ]

    events_stay : (on mtu : ℕ) (ts : List Tunnel) (es : List StreamEvent) (old : List Stream) (acts : List Due) (new : List Stream) → EventsAsk mtu ts old es acts new → Stays on old acts new
    events_stay on mtu ts [] old acts new x = same_stays on old acts new x.1
    events_stay on mtu ts (e ∷ es) old acts new x = both_stays on old x.1 new x.0 x.2 acts x.5 (event_stays on mtu ts old e x.0 x.1 x.3) (events_stay on mtu ts es x.1 x.2 new x.4)

    -- ---- a read

    pub took_step : (setup : Setup) (c d : Conn) (bytes : List ℕ) (said : Note) (on : ℕ) → IsLawful c → TookNext setup c bytes d → StepAt k closers extra c d said on
    took_step setup c d bytes said on lawful x =
        let idle = reads_idle c lawful x.can in
        let mid : Conn = record c { front = x.front; streams = x.streams; due = x.acts; out = c.out ++ x.text } in
        let asked = ap (asked_on k on) idle.due in
        let close = ap (closing closers on) idle.due in
        let first : StepAt k closers extra c mid said on = λ e some. elim (events_stay on setup.mtu c.tunnels x.events c.streams x.acts x.streams x.asks some) [
          | inl one ↦ inl one
          | inr (was, less) ↦ inr (record { ends = idle.ending; stream = was; same = inl refl; more = omega (arith, asked, close, less) })
        ] in
        subst (λ (d : Conn). StepAt k closers extra c d said on) (sym x.new_is) (step_lifts k closers extra c mid (settle mid) said on first (settle_lifts k closers extra mid))
