-- What a step of a connection leaves of a payload of a data stream: it was acted on, or is due, or may still come, or what else counts for it.
use Rattle.std.proofs.Common.{◌≡◌, ◌≤◌, ◌+◌, ◌⊎◌, ℕ, Bool, true, false, cond, not, ◌&&◌, List, [], ◌∷◌, ◌++◌, length, nat_lt, Option, Some, None, option_map, refl, sym, subst, ap, ◌∙◌, arith, inl, inr}
use Rattle.std.specs.Prelude.{find, ◌==◌, option_and_then}
use Rattle.std.specs.List.{filter, list_any}
use Rattle.std.specs.Option.{is_some}
use Rattle.std.proofs.lemmas.Bool.{eqb-true}
use Rattle.mq_capsule.specs.declared.item.Item.{Item}
use Rattle.mq_outside.specs.declared.PortPut.{PortPut}
use Rattle.mq_outside.specs.declared.PortPut.TheVariants as put
use Rattle.mq_talk.specs.declared.book.Reply.TheVariants as reply
use Rattle.mq_talk.specs.declared.note.End.{End}
use Rattle.mq_talk.specs.declared.note.From.TheVariants as source
use Rattle.mq_talk.specs.declared.note.Note.{Note}
use Rattle.mq_talk.specs.declared.note.Note.TheVariants as note
use Rattle.mq_talk.specs.declared.note.Why.{Why}
use Rattle.mq_talk.specs.declared.note.Why.TheVariants as why
use Rattle.mq_talk.specs.declared.place.Cause.{Cause}
use Rattle.mq_talk.specs.declared.place.Cause.TheVariants as cause
use Rattle.mq_talk.specs.declared.place.Verdict.{Verdict}
use Rattle.mq_talk.specs.declared.place.Verdict.TheVariants as verdict
use Rattle.mq_machine.specs.declared.act.Act.{Act}
use Rattle.mq_machine.specs.declared.act.Act.TheVariants as act
use Rattle.mq_machine.specs.declared.act.StreamAct.{StreamAct}
use Rattle.mq_machine.specs.declared.act.StreamAct.TheVariants as stream
use Rattle.mq_machine.specs.declared.act.Due.{Due}
use Rattle.mq_machine.specs.declared.act.Due.TheVariants as due
use Rattle.mq_machine.specs.Done.{is_on, without, closed, closing as closing_put, refused, refusal, opened, success, first_waiting, dropped, sent, judged, before, value, waits, with_waiting, Done, stream_done, tunnel_done, act_done, due_done, ending_done, done_by, done}
use Rattle.mq_machine.specs.Lawful.{Numbered, has_number}
use Rattle.mq_machine.specs.Putting.{Putting, first_of, putting}
use Rattle.mq_machine.specs.Reading.{is_close, stream_of}
use Rattle.mq_machine.specs.Settle.{spending, passing, is_given_up, updating, settled, settle}
use Rattle.mq_machine.specs.State.{Conn, Stream, Tunnel, Waiting, kind_of, owed, tunnel_on}
use Rattle.mq_machine.specs.Want.{Answer, Said, Bound, Replied, Judged, Pushed, Put}
use Rattle.mq_machine.specs.Words.{assign_value}
use Rattle.mq_machine.proofs.Lawful.Lists.{itself}
use Rattle.mq_play.proofs.Lists.{if_both}
use Rattle.mq_runs.specs.Asking.{acts_on}
use Rattle.mq_runs.specs.Payloads.{IsOf, IsWrong}
use Rattle.mq_runs.proofs.Asked.{Asked, DueOf, DuesOf}
use Rattle.mq_runs.proofs.Flight.{Key, asks, due_asks, asked_on}
use Rattle.mq_runs.proofs.Ranks.{Among, found_among}
use Rattle.mq_runs.proofs.Saying.{not_gone, not_limit, not_full}
use Rattle.mq_runs.proofs.Sums.{total}
use Rattle.mq_runs.proofs.Took.{to_come}
use Rattle.mq_runs.proofs.Walks.{found_passes}

-- the tunnel on a stream, by its number
abbrev pub who : List Tunnel → ℕ → Option ℕ
who [] on = None
who (t ∷ ts) on = cond (t.stream == on) (Some t.id) (who ts on)

found_by : (b : Bool) (t u : Tunnel) (o : Option Tunnel) (p : Option ℕ) → cond b (Some u) o ≡ Some t → (o ≡ Some t → p ≡ Some t.id) → cond b (Some u.id) p ≡ Some t.id
found_by true t u o p e h = ap (λ (o : Option Tunnel). option_map (λ (t : Tunnel). t.id) o) e
found_by false t u o p e h = h e

pub found_who : (ts : List Tunnel) (on : ℕ) (t : Tunnel) → find (λ (t : Tunnel). t.stream == on) ts ≡ Some t → who ts on ≡ Some t.id
found_who [] on t e = absurd cc
found_who (u ∷ ts) on t e = found_by (u.stream == on) t u (find (λ (t : Tunnel). t.stream == on) ts) (who ts on) e (λ e. found_who ts on t e)

-- what waits in it changes no tunnel's stream or number
waits_by : (b : Bool) (on id : ℕ) (w : Waiting) (t : Tunnel) (ts : List Tunnel) → who (waits id w ts) on ≡ who ts on → who (cond b (record t { waiting = t.waiting ++ w ∷ [] } ∷ ts) (t ∷ waits id w ts)) on ≡ who (t ∷ ts) on
waits_by true on id w t ts rest = refl
waits_by false on id w t ts rest = ap (λ o. cond (t.stream == on) (Some t.id) o) rest

pub waits_who : (on id : ℕ) (w : Waiting) (ts : List Tunnel) → who (waits id w ts) on ≡ who ts on
waits_who on id w [] = refl
waits_who on id w (t ∷ ts) = waits_by (t.id == id) on id w t ts (waits_who on id w ts)

-- where closes count
abbrev pub close_act : Bool → StreamAct → ℕ
close_act closers a = cond (is_close a) (cond closers 1 0) 0

abbrev pub closes_on : Bool → ℕ → Due → ℕ
closes_on closers on (due.Do (act.OfStream id a)) = cond (id == on) (close_act closers a) 0
closes_on closers on (due.Do (act.Bind id goal)) = 0
closes_on closers on (due.Do (act.Open id goal)) = 0
closes_on closers on (due.Do (act.Refuse id status rule)) = 0
closes_on closers on (due.Do (act.Reset id code)) = 0
closes_on closers on (due.Spend id size) = 0
closes_on closers on (due.Fault code) = 0

abbrev pub closing : Bool → ℕ → List Due → ℕ
closing closers on ds = total (closes_on closers on) ds

-- ---- ends

pub first_none : (e f : Option End) → first_of e f ≡ None → e ≡ None
first_none None f h = refl
first_none (Some why) None h = h
first_none (Some why) (Some later) h = absurd cc

-- ---- lists without a stream

filter_by : (f : Due → ℕ) (b : Bool) (d : Due) (ds us : List Due) → (b ≡ true → f d ≡ 0) → total f ds ≤ total f us → total f (d ∷ ds) ≤ total f (cond (not b) (d ∷ us) us)
filter_by f true d ds us none h = let zero_d = none refl in omega (arith, zero_d, h)
filter_by f false d ds us none h = omega (arith, h)

filter_keeps : (f : Due → ℕ) (p : Due → Bool) (ds : List Due) → ((d : Due) → p d ≡ true → f d ≡ 0) → total f ds ≤ total f (filter (λ d. not (p d)) ds)
filter_keeps f p [] none = omega arith
filter_keeps f p (d ∷ ds) none = filter_by f (p d) d ds (filter (λ d. not (p d)) ds) (none d) (filter_keeps f p ds none)

-- the stream is gone, and all others are there
gone_by : (b : Bool) (id : ℕ) (s : Stream) (ss : List Stream) → (s.id == id) ≡ b → stream_of ss id ≡ None → stream_of (cond (not b) (s ∷ ss) ss) id ≡ None
gone_by true id s ss is h = h
gone_by false id s ss is h = rw is h

gone_stream : (id : ℕ) (ss : List Stream) → stream_of (filter (λ (s : Stream). not (s.id == id)) ss) id ≡ None
gone_stream id [] = refl
gone_stream id (s ∷ ss) = gone_by (s.id == id) id s (filter (λ (s : Stream). not (s.id == id)) ss) refl (gone_stream id ss)

kept_by : (b : Bool) (id on : ℕ) (s : Stream) (us ss : List Stream) → (id == on) ≡ false → (s.id == id) ≡ b → stream_of us on ≡ stream_of ss on → stream_of (cond (not b) (s ∷ us) us) on ≡ stream_of (s ∷ ss) on
kept_by true id on s us ss other is h =
    let no : (s.id == on) ≡ false = ap (λ i. i == on) (eqb-true s.id id is) ∙ other in
    h ∙ sym (ap (λ b. cond b (Some s) (stream_of ss on)) no)
kept_by false id on s us ss other is h = ap (λ o. cond (s.id == on) (Some s) o) h

kept_stream : (id on : ℕ) (ss : List Stream) → (id == on) ≡ false → stream_of (filter (λ (s : Stream). not (s.id == id)) ss) on ≡ stream_of ss on
kept_stream id on [] other = refl
kept_stream id on (s ∷ ss) other = kept_by (s.id == id) id on s (filter (λ (s : Stream). not (s.id == id)) ss) ss other refl (kept_stream id on ss other)

-- whoever is there still isn't of the stream that is gone
still_there : (b : Bool) (id on : ℕ) (ss : List Stream) → (id == on) ≡ b → is_some (stream_of (filter (λ (s : Stream). not (s.id == id)) ss) on) ≡ true → (id == on) ≡ false
still_there true id on ss is some =
    let same : id ≡ on = eqb-true id on is in
    let none : stream_of (filter (λ (s : Stream). not (s.id == id)) ss) on ≡ None = ap (λ j. stream_of (filter (λ (s : Stream). not (s.id == id)) ss) j) (sym same) ∙ gone_stream id ss in
    let no = sym (ap is_some none) ∙ some in
    absurd cc
still_there false id on ss is some = is

-- a tunnel is gone that is alone with its number
apart_by : (b : Bool) (id on : ℕ) (u : Tunnel) (us ts : List Tunnel) → (u.id == id) ≡ b → (b ≡ true → (u.stream == on) ≡ false) → who us on ≡ who ts on → who (cond (not b) (u ∷ us) us) on ≡ who (u ∷ ts) on
apart_by true id on u us ts is h rest = let no = h refl in rest ∙ sym (ap (λ b. cond b (Some u.id) (who ts on)) no)
apart_by false id on u us ts is h rest = ap (λ o. cond (u.stream == on) (Some u.id) o) rest

apart_who : (id on : ℕ) (ts : List Tunnel) → ((u : Tunnel) → Among u ts → (u.id == id) ≡ true → (u.stream == on) ≡ false) → who (filter (λ (t : Tunnel). not (t.id == id)) ts) on ≡ who ts on
apart_who id on [] h = refl
apart_who id on (u ∷ ts) h = apart_by (u.id == id) id on u (filter (λ (t : Tunnel). not (t.id == id)) ts) ts refl (h u (inl refl)) (apart_who id on ts (λ v among. h v (inr among)))

has_by : (b : Bool) (id : ℕ) (ts : List Tunnel) → b ≡ true → (cond b true (has_number ts id) ≡ false) → ⊥
has_by true id ts e h = absurd cc
has_by false id ts e h = absurd cc

numbered_has : (ts : List Tunnel) (u : Tunnel) (id : ℕ) → Among u ts → (u.id == id) ≡ true → has_number ts id ≡ true
numbered_has [] u id among is = absurd among
numbered_has (v ∷ ts) u id (inl same) is = let yes : (v.id == id) ≡ true = ap (λ (t : Tunnel). t.id == id) same ∙ is in rw yes refl
numbered_has (v ∷ ts) u id (inr more) is = let rest = numbered_has ts u id more is in by_test (v.id == id) rest where
  by_test : (b : Bool) → has_number ts id ≡ true → (Rattle.std.specs.Prelude.◌||◌ b (has_number ts id)) ≡ true
  by_test true h = refl
  by_test false h = h

-- where each has its number for itself, the one with that number is the tunnel itself
numbered_one : (ts : List Tunnel) (t u : Tunnel) → Numbered ts → Among t ts → Among u ts → (u.id == t.id) ≡ true → u ≡ t
numbered_one [] t u h a b is = absurd a
numbered_one (v ∷ ts) t u h (inl same) (inl equal) is = sym equal ∙ same
numbered_one (v ∷ ts) t u h (inl same) (inr more) is =
    let yes : (u.id == v.id) ≡ true = ap (λ (t : Tunnel). u.id == t.id) same ∙ is in
    let there = numbered_has ts u v.id more yes in
    let no = sym h.0 ∙ there in
    absurd cc
numbered_one (v ∷ ts) t u h (inr more) (inl equal) is =
    let same : u.id ≡ t.id = eqb-true u.id t.id is in
    let yes : (t.id == v.id) ≡ true = ap (λ i. t.id == i) (ap (λ (t : Tunnel). t.id) equal ∙ same) ∙ itself t.id in
    let there = numbered_has ts t v.id more yes in
    let no = sym h.0 ∙ there in
    absurd cc
numbered_one (v ∷ ts) t u h (inr more) (inr other) is = numbered_one ts t u h.1 more other is

module _ (k : Key) where
  -- what a note says was done with the payload of a tunnel
  abbrev pub gain : Option ℕ → Note → ℕ
  gain None said = 0
  gain (Some id) said = cond (acts_on id k.number said) 1 0

  module _ (closers : Bool) (extra : Stream → ℕ) where
    -- the payload may still come on the data stream
    abbrev pub coming : Option Stream → ℕ
    coming None = 0
    coming (Some s) = to_come k s + extra s

    abbrev pub up : Conn → ℕ → ℕ
    up c on = asked_on k on c.due + closing closers on c.due + coming (stream_of c.streams on)

    -- ---- steps that bring nothing

    pub record Lifts (c d : Conn) : Type 0 where
      pub ends : d.ending ≡ None → c.ending ≡ None
      pub streams : d.ending ≡ None → d.streams ≡ c.streams
      pub same : (on : ℕ) → who d.tunnels on ≡ who c.tunnels on
      pub more : d.ending ≡ None → (on : ℕ) → up c on ≤ up d on

    pub lifts_same : (c : Conn) → Lifts c c
    lifts_same c = record { ends = λ e. e; streams = λ e. refl; same = λ on. refl; more = λ e on. omega arith }

    pub lifts_on : (a b c : Conn) → Lifts a b → Lifts b c → Lifts a c
    lifts_on a b c x y = record {
      ends = λ e. x.ends (y.ends e);
      streams = λ e. y.streams e ∙ x.streams (y.ends e);
      same = λ on. y.same on ∙ x.same on;
      more = λ e on. let one = x.more (y.ends e) on in let two = y.more e on in omega (arith, one, two);
    }

    pub putting_lifts : (c : Conn) (put : Putting) → Lifts c (putting c put)
    putting_lifts c put = record { ends = first_none c.ending put.ending; streams = λ e. refl; same = λ on. refl; more = λ e on. omega arith }

    pub passing_lifts : (ds : List Due) (c : Conn) → ((on : ℕ) → asked_on k on c.due + closing closers on c.due ≤ asked_on k on ds + closing closers on ds) → Lifts c (passing ds c)
    passing_lifts [] c h = record { ends = λ e. e; streams = λ e. refl; same = λ on. refl; more = λ e on. let one = h on in omega (arith, one) }
    passing_lifts (due.Do a ∷ rest) c h = record { ends = λ e. e; streams = λ e. refl; same = λ on. refl; more = λ e on. let one = h on in omega (arith, one) }
    passing_lifts (due.Spend id size ∷ rest) c h =
        let mid : Conn = record c { front = spending c.front id size } in
        let rest_of = passing_lifts rest mid (λ on. let one = h on in omega (arith, one)) in
        record { ends = rest_of.ends; streams = rest_of.streams; same = rest_of.same; more = rest_of.more }
    passing_lifts (due.Fault code ∷ rest) c h = record { ends = λ e. absurd cc; streams = λ e. refl; same = λ on. refl; more = λ e on. absurd cc }

    settled_lifts : (c : Conn) → Lifts c (settled c)
    settled_lifts c = if_both (λ d. Lifts c d) (is_given_up c.ending) c (putting c (updating c.front (owed c))) (lifts_same c) (putting_lifts c (updating c.front (owed c)))

    pub settle_lifts : (c : Conn) → Lifts c (settle c)
    settle_lifts c = lifts_on c (passing c.due c) (settle c) (passing_lifts c.due c (λ on. omega arith)) (settled_lifts (passing c.due c))

    -- ---- a step, on one stream

    pub record Kept (c d : Conn) (said : Note) (on : ℕ) : Type 0 where
      pub ends : c.ending ≡ None
      pub stream : is_some (stream_of c.streams on) ≡ true
      pub same : (who d.tunnels on ≡ who c.tunnels on) ⊎ (who c.tunnels on ≡ None)
      pub more : up c on ≤ up d on + gain (who c.tunnels on) said

    abbrev pub StepAt : Conn → Conn → Note → ℕ → Type 0
    StepAt c d said on = d.ending ≡ None → is_some (stream_of d.streams on) ≡ true → (1 ≤ up d on) ⊎ Kept c d said on

    pub lifts_at : (c d : Conn) (said : Note) (on : ℕ) → Lifts c d → StepAt c d said on
    lifts_at c d said on x e some = inr (record {
      ends = x.ends e;
      stream = subst (λ (ss : List Stream). is_some (stream_of ss on) ≡ true) (x.streams e) some;
      same = inl (x.same on);
      more = let one = x.more e on in omega (arith, one);
    })

    pub step_lifts : (c d e : Conn) (said : Note) (on : ℕ) → StepAt c d said on → Lifts d e → StepAt c e said on
    step_lifts c d e said on x y none some =
        let more = y.more none on in
        elim (x (y.ends none) (subst (λ (ss : List Stream). is_some (stream_of ss on) ≡ true) (y.streams none) some)) [
          | inl one ↦ inl (omega (arith, one, more))
          | inr kept ↦ inr (record {
            ends = kept.ends;
            stream = kept.stream;
            same = elim kept.same [ inl same ↦ inl (y.same on ∙ same) | inr empty ↦ inr empty ];
            more = let less = kept.more in omega (arith, less, more);
          })
        ]

    pub lifts_step : (b c d : Conn) (said : Note) (on : ℕ) → Lifts b c → StepAt c d said on → StepAt b d said on
    lifts_step b c d said on x y none some = elim (y none some) [
      | inl one ↦ inl one
      | inr kept ↦ inr (record {
        ends = x.ends kept.ends;
        stream = subst (λ (ss : List Stream). is_some (stream_of ss on) ≡ true) (x.streams kept.ends) kept.stream;
        same = elim kept.same [ inl same ↦ inl (same ∙ x.same on) | inr empty ↦ inr (sym (x.same on) ∙ empty) ];
        more =
            let less = kept.more in
            let first = x.more kept.ends on in
            let both = ap (λ o. gain o said) (x.same on) in
            omega (arith, less, first, both);
      })
    ]

    -- a connection that is ending goes on ending
    over_at : (c d : Conn) (said : Note) (on : ℕ) (reason : End) → (d.ending ≡ None → c.ending ≡ None) → c.ending ≡ Some reason → StepAt c d said on
    over_at c d said on reason ends is e some = absurd (let none = sym is ∙ ends e in cc)

    -- ---- acts

    module _ (c : Conn) (on : ℕ) where
      -- the first act that is due is done, and asks nothing of a payload of this stream
      skipped : (d : Due) (rest : List Due) (said : Note) → c.due ≡ d ∷ rest → due_asks k on d ≡ 0 → closes_on closers on d ≡ 0 → StepAt c (record c { due = rest }) said on
      skipped d rest said is none unclosed e some = inr (record {
        ends = e;
        stream = some;
        same = inl refl;
        more = let asked = ap (asked_on k on) is in let close = ap (closing closers on) is in omega (arith, asked, close, none, unclosed);
      })

      -- it is done with its payload
      paid_by : (b : Bool) (id : ℕ) (a : StreamAct) (rest : List Due) (t : Tunnel) (said : Note) → (id == on) ≡ b → c.due ≡ due.Do (act.OfStream id a) ∷ rest → tunnel_on c id ≡ Some t → close_act closers a ≡ 0
          → asks k a ≤ gain (Some t.id) said → StepAt c (record c { due = rest }) said on
      paid_by true id a rest t said at is serves unclosed less e some =
          let same : id ≡ on = eqb-true id on at in
          let own : who c.tunnels on ≡ Some t.id = found_who c.tunnels on t (subst (λ i. tunnel_on c i ≡ Some t) same serves) in
          let asked = ap (asked_on k on) is in
          let close = ap (closing closers on) is in
          let gains = ap (λ o. gain o said) own in
          let here : due_asks k on (due.Do (act.OfStream id a)) ≡ asks k a = ap (λ b. cond b (asks k a) 0) at in
          let none : closes_on closers on (due.Do (act.OfStream id a)) ≡ close_act closers a = ap (λ b. cond b (close_act closers a) 0) at in
          inr (record { ends = e; stream = some; same = inl refl; more = omega (arith, asked, close, gains, here, none, unclosed, less) })
      paid_by false id a rest t said at is serves unclosed less e some =
          skipped (due.Do (act.OfStream id a)) rest said is (ap (λ b. cond b (asks k a) 0) at) (ap (λ b. cond b (close_act closers a) 0) at) e some

      paid : (id : ℕ) (a : StreamAct) (rest : List Due) (t : Tunnel) (said : Note) → c.due ≡ due.Do (act.OfStream id a) ∷ rest → tunnel_on c id ≡ Some t → close_act closers a ≡ 0 → asks k a ≤ gain (Some t.id) said
          → StepAt c (record c { due = rest }) said on
      paid id a rest t said is serves unclosed less = paid_by (id == on) id a rest t said refl is serves unclosed less

      -- what is asked of a stream goes with it
      of_other : (id : ℕ) (d : Due) → (id == on) ≡ false → is_on id d ≡ true → (due_asks k on d ≡ 0) × (closes_on closers on d ≡ 0)
      of_other id (due.Do (act.OfStream o a)) other is =
          let no : (o == on) ≡ false = ap (λ i. i == on) (eqb-true o id is) ∙ other in
          (ap (λ b. cond b (asks k a) 0) no, ap (λ b. cond b (close_act closers a) 0) no)
      of_other id (due.Do (act.Bind o goal)) other is = (refl, refl)
      of_other id (due.Do (act.Open o goal)) other is = (refl, refl)
      of_other id (due.Do (act.Refuse o status rule)) other is = (refl, refl)
      of_other id (due.Do (act.Reset o code)) other is = (refl, refl)
      of_other id (due.Spend o size) other is = (refl, refl)
      of_other id (due.Fault code) other is = (refl, refl)

      -- a stream is gone with all that is asked of it, and its tunnel
      gone_at : (id : ℕ) (front : Due) (rest : List Due) (us : List Tunnel) (put : Putting) (said : Note) → c.due ≡ front ∷ rest → ((id == on) ≡ false → (due_asks k on front ≡ 0) × (closes_on closers on front ≡ 0))
          → ((id == on) ≡ false → who us on ≡ who c.tunnels on) → StepAt c (putting (record (without id (record c { due = rest })) { tunnels = us }) put) said on
      gone_at id front rest us put said is none same e some =
          let other = still_there (id == on) id on c.streams refl some in
          let asked = ap (asked_on k on) is in
          let close = ap (closing closers on) is in
          let first = none other in
          let no_asks = first.0 in
          let no_close = first.1 in
          let asks_kept = filter_keeps (due_asks k on) (is_on id) rest (λ d on_it. (of_other id d other on_it).0) in
          let close_kept = filter_keeps (closes_on closers on) (is_on id) rest (λ d on_it. (of_other id d other on_it).1) in
          let there = kept_stream id on c.streams other in
          let comes = ap coming there in
          inr (record {
            ends = first_none c.ending put.ending e;
            stream = sym (ap is_some there) ∙ some;
            same = inl (same other);
            more = omega (arith, asked, close, no_asks, no_close, asks_kept, close_kept, comes);
          })

      closed_at : (id : ℕ) (a : StreamAct) (rest : List Due) (t : Tunnel) (reason : Why) (said : Note) → c.due ≡ due.Do (act.OfStream id a) ∷ rest → tunnel_on c id ≡ Some t → Numbered c.tunnels
          → StepAt c (closed (record c { due = rest }) t reason).1 said on
      closed_at id a rest t reason said is serves numbered =
          let on_it : t.stream ≡ id = eqb-true t.stream id (found_passes (λ (t : Tunnel). t.stream == id) c.tunnels t serves) in
          let among = found_among (λ (t : Tunnel). t.stream == id) c.tunnels t serves in
          gone_at t.stream (due.Do (act.OfStream id a)) rest (filter (λ (u : Tunnel). not (u.id == t.id)) c.tunnels) (closing_put c.front t reason) said is
          (λ other. let no : (id == on) ≡ false = ap (λ i. i == on) (sym on_it) ∙ other in (ap (λ b. cond b (asks k a) 0) no, ap (λ b. cond b (close_act closers a) 0) no))
          (λ other. apart_who t.id on c.tunnels (λ u there one. ap (λ (x : Tunnel). x.stream == on) (numbered_one c.tunnels t u numbered among there one) ∙ other))

      refused_at : (id status rule : ℕ) (front : Due) (rest : List Due) (said : Note) → c.due ≡ front ∷ rest → due_asks k on front ≡ 0 → closes_on closers on front ≡ 0 → StepAt c (refused (record c { due = rest }) id status rule).1 said on
      refused_at id status rule front rest said is none unclosed = gone_at id front rest c.tunnels (refusal c.front id status) said is (λ other. (none, unclosed)) (λ other. refl)

      abbrev StepIn : Done → Type 0
      StepIn None = Unit {0}
      StepIn (Some d) = StepAt c d.1 d.0 on

      none_cond : (b : Bool) → ◌≡◌ {A = ℕ} (cond b 0 0) 0
      none_cond true = refl
      none_cond false = refl

      own_gain : (id m : ℕ) → cond (m == k.number) 1 0 ≤ cond (id == id && m == k.number) 1 0
      own_gain id m = let yes = itself id in rw yes (omega arith)

      drop_gain : (mtu id n : ℕ) (cause : Cause) (i : Item) → IsWrong mtu i cause → cond (n == k.number) 1 0 ≤ gain (Some id) (note.Dropped (source.Tunnel id) n cause)
      drop_gain mtu id n cause.UnknownContext i wrong = own_gain id n
      drop_gain mtu id n cause.BadHeader i wrong = own_gain id n
      drop_gain mtu id n cause.TooLong i wrong = own_gain id n
      drop_gain mtu id n cause.Source i wrong = own_gain id n
      drop_gain mtu id n cause.NoRoute i wrong = own_gain id n
      drop_gain mtu id n cause.InboxFull i wrong = own_gain id n
      drop_gain mtu id n cause.Port i wrong = own_gain id n
      drop_gain mtu id n cause.Gone i wrong = absurd (not_gone mtu i wrong)
      drop_gain mtu id n cause.HopLimit i wrong = absurd (not_limit mtu i wrong)
      drop_gain mtu id n cause.QueueFull i wrong = absurd (not_full mtu i wrong)

      append_by : (b : Bool) (t new : Tunnel) (ts : List Tunnel) → (who (ts ++ new ∷ []) on ≡ who ts on) ⊎ (who ts on ≡ None) → (cond b (Some t.id) (who (ts ++ new ∷ []) on) ≡ cond b (Some t.id) (who ts on)) ⊎ (cond b (Some t.id) (who ts on) ≡ None)
      append_by true t new ts rest = inl refl
      append_by false t new ts rest = rest

      append_who : (new : Tunnel) (ts : List Tunnel) → (who (ts ++ new ∷ []) on ≡ who ts on) ⊎ (who ts on ≡ None)
      append_who new [] = inr refl
      append_who new (t ∷ ts) = append_by (t.stream == on) t new ts (append_who new ts)

      module _ (mtu id : ℕ) (rest : List Due) (t : Tunnel) (serves : tunnel_on c id ≡ Some t) (numbered : Numbered c.tunnels) where
        abbrev left : Conn
        left = record c { due = rest }

        abbrev IsFront : StreamAct → Type 0
        IsFront a = c.due ≡ due.Do (act.OfStream id a) ∷ rest

        sent_step : (n : ℕ) (payload : List ℕ) (did : PortPut) → IsFront (stream.Payload n payload) → StepIn (sent left t n payload did)
        sent_step n payload put.Sent is = paid id (stream.Payload n payload) rest t (note.Sent (source.Tunnel t.id) n payload) is serves refl (own_gain t.id n)
        sent_step n payload put.Failed is = paid id (stream.Payload n payload) rest t (note.Dropped (source.Tunnel t.id) n cause.Port) is serves refl (own_gain t.id n)
        sent_step n payload put.NotNow is = tt

        -- what passed is due to be pushed
        again_step : (n : ℕ) (a b : StreamAct) (said : Note) → IsFront a → asks k b ≡ asks k a → close_act closers b ≡ close_act closers a → StepAt c (before (act.OfStream t.stream b) left) said on
        again_step n a b said is same_asks same_close e some =
            let on_it : t.stream ≡ id = eqb-true t.stream id (found_passes (λ (t : Tunnel). t.stream == id) c.tunnels t serves) in
            let asked = ap (asked_on k on) is in
            let close = ap (closing closers on) is in
            let now : due_asks k on (due.Do (act.OfStream t.stream b)) ≡ due_asks k on (due.Do (act.OfStream id a)) = ap (λ i. cond (i == on) (asks k b) 0) on_it ∙ ap (λ m. cond (id == on) m 0) same_asks in
            let then : closes_on closers on (due.Do (act.OfStream t.stream b)) ≡ closes_on closers on (due.Do (act.OfStream id a)) = ap (λ i. cond (i == on) (close_act closers b) 0) on_it ∙ ap (λ m. cond (id == on) m 0) same_close in
            inr (record { ends = e; stream = some; same = inl refl; more = omega (arith, asked, close, now, then) })

        judged_step : (n : ℕ) (packet : List ℕ) (flow : _) (said : Verdict) (at : ℕ) → IsFront (stream.Packet n packet flow) → StepAt c (judged left t n packet said at).1 (judged left t n packet said at).0 on
        judged_step n packet flow (verdict.Pass to) at is = again_step n (stream.Packet n packet flow) (stream.Push n to packet) (note.Passed (source.Tunnel t.id) n at to) is refl refl
        judged_step n packet flow verdict.Source at is = paid id (stream.Packet n packet flow) rest t (note.Dropped (source.Tunnel t.id) n cause.Source) is serves refl (own_gain t.id n)
        judged_step n packet flow verdict.NoRoute at is = paid id (stream.Packet n packet flow) rest t (note.Dropped (source.Tunnel t.id) n cause.NoRoute) is serves refl (own_gain t.id n)

        stream_step : (a : StreamAct) (answer : Answer) → IsFront a → IsOf mtu c.streams id a → StepIn (stream_done left t a answer)
        stream_step (stream.Payload n payload) (Put did limit) is of =
            if_both StepIn (nat_lt limit (length payload)) (Some (dropped left t n cause.TooLong)) (sent left t n payload did)
            (paid id (stream.Payload n payload) rest t (note.Dropped (source.Tunnel t.id) n cause.TooLong) is serves refl (own_gain t.id n)) (sent_step n payload did is)
        stream_step (stream.Packet n packet flow) (Judged said at) is of = judged_step n packet flow said at is
        stream_step (stream.Push n to packet) (Pushed true) is of = paid id (stream.Push n to packet) rest t (note.PushedNote (source.Tunnel t.id) n to) is serves refl (own_gain t.id n)
        stream_step (stream.Push n to packet) (Pushed false) is of = paid id (stream.Push n to packet) rest t (note.Dropped (source.Tunnel t.id) n cause.InboxFull) is serves refl (own_gain t.id n)
        stream_step (stream.Drop n cause) Said is of = paid id (stream.Drop n cause) rest t (note.Dropped (source.Tunnel t.id) n cause) is serves refl (drop_gain mtu t.id n cause of.0 of.2)
        stream_step (stream.Assign asked) (Replied (reply.Assigned list at)) is of =
            step_lifts c left (with_waiting t.id (value 1 (assign_value list)) left) (note.Assigned t.id at list) on
            (skipped (due.Do (act.OfStream id (stream.Assign asked))) rest (note.Assigned t.id at list) is (none_cond (id == on)) (none_cond (id == on)))
            (record { ends = λ e. e; streams = λ e. refl; same = λ o. waits_who o t.id (value 1 (assign_value list)) c.tunnels; more = λ e o. omega arith })
        stream_step (stream.Assign asked) (Replied reply.Closed) is of = closed_at id (stream.Assign asked) rest t why.Full _ is serves numbered
        stream_step (stream.Advertise ranges) (Replied (reply.Accepted accepts at)) is of = skipped (due.Do (act.OfStream id (stream.Advertise ranges))) rest (note.Advertised t.id at accepts) is (none_cond (id == on)) (none_cond (id == on))
        stream_step (stream.Advertise ranges) (Replied reply.Closed) is of = closed_at id (stream.Advertise ranges) rest t why.Full _ is serves numbered
        stream_step (stream.Close reason) (Replied reply.Closed) is of = closed_at id (stream.Close reason) rest t reason _ is serves numbered
        stream_step a answer is of = tt

      tunnel_step : (mtu id : ℕ) (a : StreamAct) (rest : List Due) (o : Option Tunnel) (answer : Answer) → tunnel_on c id ≡ o → Numbered c.tunnels → c.due ≡ due.Do (act.OfStream id a) ∷ rest → IsOf mtu c.streams id a → StepIn (tunnel_done (record c { due = rest }) o a answer)
      tunnel_step mtu id a rest None answer serves numbered is of = tt
      tunnel_step mtu id a rest (Some t) answer serves numbered is of = stream_step mtu id rest t serves numbered a answer is of

      -- an act more is due, with no payload
      begins_lifts : (a : Act) (d : Conn) → ((o : ℕ) → due_asks k o (due.Do a) ≡ 0) → ((o : ℕ) → closes_on closers o (due.Do a) ≡ 0) → Lifts d (before a d)
      begins_lifts a d none unclosed = record { ends = λ e. e; streams = λ e. refl; same = λ o. refl; more = λ e o. omega arith }

      act_step : (mtu : ℕ) (a : Act) (rest : List Due) (answer : Answer) → Numbered c.tunnels → c.due ≡ due.Do a ∷ rest → DueOf mtu c.streams (due.Do a) → StepIn (act_done (record c { due = rest }) a answer)
      act_step mtu (act.Bind id goal) rest (Bound true) numbered is of =
          step_lifts c (record c { due = rest }) (before (act.Open id goal) (record c { due = rest })) (note.Ported c.number id) on (skipped (due.Do (act.Bind id goal)) rest (note.Ported c.number id) is refl refl)
          (begins_lifts (act.Open id goal) (record c { due = rest }) (λ o. refl) (λ o. refl))
      act_step mtu (act.Bind id goal) rest (Bound false) numbered is of = refused_at id 502 0 (due.Do (act.Bind id goal)) rest _ is refl refl
      act_step mtu (act.Open id goal) rest (Replied (reply.Opened tunnel routes)) numbered is of = opened_step where
        opened_step : StepIn (Some (opened (record c { due = rest }) tunnel id goal routes))
        opened_step e some =
            let put = success c.front id (kind_of goal) in
            let asked = ap (asked_on k on) is in
            let close = ap (closing closers on) is in
            inr (record {
              ends = first_none c.ending put.ending e;
              stream = some;
              same = append_who (record { id = tunnel; stream = id; goal = goal; waiting = first_waiting (kind_of goal) routes }) c.tunnels;
              more = omega (arith, asked, close);
            })
      act_step mtu (act.Open id goal) rest (Replied (reply.HistoryFull entries live)) numbered is of = refused_at id 503 0 (due.Do (act.Open id goal)) rest _ is refl refl
      act_step mtu (act.Refuse id status rule) rest Said numbered is of = refused_at id status rule (due.Do (act.Refuse id status rule)) rest _ is refl refl
      act_step mtu (act.Reset id code) rest Said numbered is of = skipped (due.Do (act.Reset id code)) rest (note.Reset c.number id code) is refl refl
      act_step mtu (act.OfStream id a) rest answer numbered is of = tunnel_step mtu id a rest (tunnel_on c id) answer refl numbered is of
      act_step mtu a rest answer numbered is of = tt

      due_step : (mtu : ℕ) (ds : List Due) (answer : Answer) → Numbered c.tunnels → c.due ≡ ds → DuesOf mtu c.streams ds → StepIn (due_done c ds answer)
      due_step mtu [] answer numbered is h = tt
      due_step mtu (due.Do a ∷ rest) answer numbered is h = act_step mtu a rest answer numbered is h.0
      due_step mtu (due.Spend id size ∷ rest) answer numbered is h = tt
      due_step mtu (due.Fault code ∷ rest) answer numbered is h = tt

      ending_step : (reason : End) (ts : List Tunnel) (answer : Answer) → c.ending ≡ Some reason → StepIn (ending_done c ts answer)
      ending_step reason (t ∷ ts) (Replied reply.Closed) is = over_at c (closed c t why.Conn).1 _ on reason (first_none c.ending (closing_put c.front t why.Conn).ending) is
      ending_step reason ts answer is = tt

      by_step : (mtu : ℕ) (e : Option End) (answer : Answer) → c.ending ≡ e → (e ≡ None → Numbered c.tunnels) → Asked mtu c → StepIn (done_by c e answer)
      by_step mtu None answer is numbered h = due_step mtu c.due answer (numbered refl) refl h
      by_step mtu (Some reason) answer is numbered h = ending_step reason c.tunnels answer is

      settled_step : (o : Done) → StepIn o → StepIn (option_map (λ (d : Note × Conn). (d.0, settle d.1)) o)
      settled_step None h = tt
      settled_step (Some d) h = step_lifts c d.1 (settle d.1) d.0 on h (settle_lifts d.1)

      pub done_step : (mtu : ℕ) (answer : Answer) → (c.ending ≡ None → Numbered c.tunnels) → Asked mtu c → StepIn (done c answer)
      done_step mtu answer numbered h = settled_step (done_by c c.ending answer) (by_step mtu c.ending answer refl numbered h)
