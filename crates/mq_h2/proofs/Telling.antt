-- Frames consume nothing, and tell the DATA that arrives on its stream.
use Rattle.std.proofs.Common.{◌≡◌, ◌≤◌, ℕ, ◌+◌, Bool, true, false, cond, eqb, ltb, List, [], ◌∷◌, ◌++◌, length, Option, Some, None, Result, Ok, Err, refl, sym, subst, ◌∙◌, arith, inl, inr}
use Rattle.mq_frame.specs.declared.frame.Frame.{Frame}
use Rattle.mq_frame.specs.declared.frame.Frame.TheVariants as frame
use Rattle.mq_frame.specs.declared.frame.Setting.{Setting}
use Rattle.mq_hpack.specs.declared.field.Field.{Field}
use Rattle.mq_hpack.specs.declared.fault.HpackFault.{HpackFault}
use Rattle.mq_hpack.specs.Table.{Table}
use Rattle.mq_streams.specs.History.{History, Event, Opened, TurnedAway, Arrived, Discarded, Extended, Shifted, Finished, Dropped, total, consumed_on, arrived_on, is_live, has_finished}
use Rattle.mq_streams.specs.Answers.{is_idle, begun, count_of, grant_of, can_shift}
use Rattle.mq_streams.specs.declared.answers.Began.{Began}
use Rattle.mq_streams.specs.declared.answers.Began.TheVariants as began
use Rattle.mq_streams.specs.declared.answers.Counted.{Counted}
use Rattle.mq_streams.specs.declared.answers.Counted.TheVariants as counted
use Rattle.mq_streams.specs.declared.answers.Granted.{Granted}
use Rattle.mq_streams.specs.declared.answers.Granted.TheVariants as granted
use Rattle.mq_h2.specs.declared.block.OpenBlock.{OpenBlock}
use Rattle.mq_h2.specs.declared.event.StreamEvent.{StreamEvent}
use Rattle.mq_h2.specs.declared.event.StreamEvent.TheVariants.{Request, Malformed, Content, Reset, ConnectionError}
use Rattle.mq_h2.specs.Codes.{max_block, fault_code}
use Rattle.mq_h2.specs.Fields.{is_malformed}
use Rattle.mq_h2.specs.State.{State}
use Rattle.mq_h2.specs.Frames.{Did, Is, quietly, breaks, turns_away, fails, fails_at, finish, on_data, on_request, on_fields, on_block, OnSome, OnHeaders, OnContinuation, on_reset, on_window, shift_of, shifts, on_settings, on_ping, Does, DoAll}
use Rattle.mq_h2.specs.Reading.{told_in}
use Rattle.mq_h2.specs.Doing.{AreHeld}

-- on each stream as much arrived and was consumed
pub record Same (h k : History) : Type 0 where
  pub consumed : (id : ℕ) → total (consumed_on id) k ≡ total (consumed_on id) h
  pub arrived : (id : ℕ) → total (arrived_on id) k ≡ total (arrived_on id) h

-- as much was consumed, and what arrived was told
pub record Tells (h : History) (events : List StreamEvent) (k : History) : Type 0 where
  pub consumed : (id : ℕ) → total (consumed_on id) k ≡ total (consumed_on id) h
  pub arrived : (id : ℕ) → total (arrived_on id) k ≡ total (arrived_on id) h + told_in id events

abbrev TellsDid : History → Did → Type 0
TellsDid h did = Tells h did.events did.after.history

same : (h : History) → Same h h
same h = record { consumed = λ id. refl; arrived = λ id. refl }

one_more : (h : History) (e : Event) → ((id : ℕ) → consumed_on id e ≡ 0) → ((id : ℕ) → arrived_on id e ≡ 0) → Same h (e ∷ h)
one_more h e c a = record { consumed = λ id. let z = c id in omega arith; arrived = λ id. let z = a id in omega arith }

silent : (h : History) (events : List StreamEvent) (k : History) → Same h k → ((id : ℕ) → told_in id events ≡ 0) → Tells h events k
silent h events k is none = record { consumed = is.consumed; arrived = λ id. let a = is.arrived id in let z = none id in omega arith }

nothing : (id : ℕ) → told_in id [] ≡ 0
nothing id = refl

told_from : (h k : History) (events : List StreamEvent) (m : History) → Same h k → Tells k events m → Tells h events m
told_from h k events m is tells = record { consumed = λ id. tells.consumed id ∙ is.consumed id; arrived = λ id. let a = tells.arrived id in let b = is.arrived id in omega arith }

told_if : (b : Bool) (h : History) (x y : Did) → TellsDid h x → TellsDid h y → TellsDid h (cond b x y)
told_if true h x y a c = a
told_if false h x y a c = c

told_is : (h : History) (did : Did) (events : List StreamEvent) (t : State) → Is did events t → TellsDid h did → Tells h events t.history
told_is h did events t is tells =
    let P : List StreamEvent → State → Type 0 = λ e u. Tells h e u.history in
    subst (λ (e : List StreamEvent). P e t) (sym is.0) (subst (λ (u : State). P did.events u) (sym is.1) tells)

-- Each thing that is done.

quiet_tells : (h : History) (s : State) → Same h s.history → TellsDid h (quietly s)
quiet_tells h s is = silent h [] s.history is nothing

break_tells : (code : ℕ) (h : History) (s : State) → Same h s.history → TellsDid h (breaks code s)
break_tells code h s is = silent h (ConnectionError code ∷ []) s.history is (λ id. refl)

away_tells : (id code : ℕ) (s : State) → TellsDid s.history (turns_away id code s)
away_tells id code s = silent s.history (Malformed id code ∷ []) s.history (same s.history) (λ i. refl)

dropped : (id : ℕ) (h : History) → Same h (Dropped id ∷ h)
dropped id h = one_more h (Dropped id) (λ i. refl) (λ i. refl)

fail_tells : (id code : ℕ) (s : State) → TellsDid s.history (fails id code s)
fail_tells id code s = silent s.history (Malformed id code ∷ []) (Dropped id ∷ s.history) (dropped id s.history) (λ i. refl)

fail_at_tells : (id code : ℕ) (s : State) → TellsDid s.history (fails_at id code s)
fail_at_tells id code s = told_if (eqb id 0) s.history (breaks code s) (fails id code s) (break_tells code s.history s (same s.history)) (fail_tells id code s)

finish_same : (end : Bool) (id : ℕ) (h : History) → Same h (finish end id h)
finish_same true id h = one_more h (Finished id) (λ i. refl) (λ i. refl)
finish_same false id h = same h

arrives : (end : Bool) (id : ℕ) (bytes : List ℕ) (len : ℕ) (h : History) → Tells h (Content id bytes len end ∷ []) (finish end id (Arrived id len ∷ h))
arrives end id bytes len h =
    let f = finish_same end id (Arrived id len ∷ h) in
    record {
      consumed = λ i. let x : total (consumed_on i) (finish end id (Arrived id len ∷ h)) ≡ 0 + total (consumed_on i) h = f.consumed i in omega arith;
      arrived = λ i.
          let x : total (arrived_on i) (finish end id (Arrived id len ∷ h)) ≡ cond (eqb id i) len 0 + total (arrived_on i) h = f.arrived i in
          let goal : total (arrived_on i) (finish end id (Arrived id len ∷ h)) ≡ total (arrived_on i) h + (cond (eqb id i) len 0 + 0) = omega arith in
          goal;
    }

discarded : (id len : ℕ) (h : History) → Same h (Discarded id len ∷ h)
discarded id len h = one_more h (Discarded id len) (λ i. refl) (λ i. refl)

data_tells : (k : Counted) (id : ℕ) (bytes : List ℕ) (len : ℕ) (end : Bool) (s : State) → TellsDid s.history (on_data k id bytes len end s)
data_tells counted.Yes id bytes len end s = arrives end id bytes len s.history
data_tells counted.Ignored id bytes len end s = silent s.history [] (Discarded id len ∷ s.history) (discarded id len s.history) nothing
data_tells counted.Idle id bytes len end s = break_tells 1 s.history s (same s.history)
data_tells counted.OverConnection id bytes len end s = break_tells 3 s.history s (same s.history)
data_tells counted.OverStream id bytes len end s =
    told_from s.history (Discarded id len ∷ s.history) (Malformed id 3 ∷ []) (Dropped id ∷ Discarded id len ∷ s.history) (discarded id len s.history)
    (fail_tells id 3 (record s { history = Discarded id len ∷ s.history }))

request_tells : (fields : List Field) (b : OpenBlock) (s : State) → TellsDid s.history (on_request fields b s)
request_tells fields b s =
    told_if (is_malformed fields) s.history (fails b.stream 1 s) (record { events = Request b.stream fields b.end ∷ []; after = record s { history = finish b.end b.stream s.history } })
    (fail_tells b.stream 1 s) (silent s.history (Request b.stream fields b.end ∷ []) (finish b.end b.stream s.history) (finish_same b.end b.stream s.history) (λ i. refl))

fields_tells : (k : Began) (fields : List Field) (b : OpenBlock) (s : State) → TellsDid s.history (on_fields k fields b s)
fields_tells began.Live fields b s =
    told_if (is_live b.stream s.history) s.history (on_request fields b s) (quietly s) (request_tells fields b s) (quiet_tells s.history s (same s.history))
fields_tells began.Refused fields b s = away_tells b.stream 7 s
fields_tells began.Old fields b s =
    told_if (is_live b.stream s.history) s.history (cond (has_finished b.stream s.history) (quietly s) (fails b.stream 1 s)) (quietly s)
    (told_if (has_finished b.stream s.history) s.history (quietly s) (fails b.stream 1 s) (quiet_tells s.history s (same s.history)) (fail_tells b.stream 1 s))
    (quiet_tells s.history s (same s.history))
fields_tells began.BadId fields b s = quiet_tells s.history s (same s.history)

block_tells : (r : Result (List Field × Table) HpackFault) (b : OpenBlock) (s : State) → TellsDid s.history (on_block r b s)
block_tells (Ok x) b s = fields_tells b.began x.0 b (record s { table = x.1; block = None })
block_tells (Err fault) b s = break_tells (fault_code fault) s.history s (same s.history)

some_tells : (many whole : Bool) (b : OpenBlock) (s : State) (events : List StreamEvent) (t : State) → OnSome many whole b s events t → Tells s.history events t.history
some_tells true whole b s events t is = told_is s.history (breaks 11 s) events t is (break_tells 11 s.history s (same s.history))
some_tells false true b s events t is = told_is s.history (on_block is.0 b s) events t is.2 (block_tells is.0 b s)
some_tells false false b s events t is =
    told_is s.history (quietly (record s { block = Some b })) events t is (quiet_tells s.history (record s { block = Some b }) (same s.history))

headers_tells : (k : Began) (id : ℕ) (block : List ℕ) (end whole : Bool) (s : State) (events : List StreamEvent) (t : State) → OnHeaders k id block end whole s events t
    → Tells s.history events t.history
headers_tells began.BadId id block end whole s events t is = told_is s.history (breaks 1 s) events t is (break_tells 1 s.history s (same s.history))
headers_tells began.Live id block end whole s events t is =
    told_from s.history (Opened id ∷ s.history) events t.history (one_more s.history (Opened id) (λ i. refl) (λ i. refl))
    (some_tells (ltb max_block (length block)) whole (record { stream = id; began = began.Live; end = end; bytes = block }) (record s { history = Opened id ∷ s.history }) events t is)
headers_tells began.Refused id block end whole s events t is =
    told_from s.history (TurnedAway id ∷ s.history) events t.history (one_more s.history (TurnedAway id) (λ i. refl) (λ i. refl))
    (some_tells (ltb max_block (length block)) whole (record { stream = id; began = began.Refused; end = end; bytes = block }) (record s { history = TurnedAway id ∷ s.history }) events t is)
headers_tells began.Old id block end whole s events t is =
    some_tells (ltb max_block (length block)) whole (record { stream = id; began = began.Old; end = end; bytes = block }) s events t is

continuation_tells : (b : Option OpenBlock) (block : List ℕ) (whole : Bool) (s : State) (events : List StreamEvent) (t : State) → OnContinuation b block whole s events t
    → Tells s.history events t.history
continuation_tells None block whole s events t is = told_is s.history (breaks 1 s) events t is (break_tells 1 s.history s (same s.history))
continuation_tells (Some b) block whole s events t is =
    some_tells (ltb max_block (length (b.bytes ++ block))) whole (record b { bytes = b.bytes ++ block }) s events t is

reset_tells : (id code : ℕ) (s : State) → TellsDid s.history (on_reset id code s)
reset_tells id code s =
    let gone : Did = record { events = Reset id code ∷ []; after = record s { history = Dropped id ∷ s.history } } in
    told_if (is_idle id s.history) s.history (breaks 1 s) (cond (is_live id s.history) gone (quietly s)) (break_tells 1 s.history s (same s.history))
    (told_if (is_live id s.history) s.history gone (quietly s) (silent s.history (Reset id code ∷ []) (Dropped id ∷ s.history) (dropped id s.history) (λ i. refl))
    (quiet_tells s.history s (same s.history)))

window_tells : (k : Granted) (id grow : ℕ) (s : State) → TellsDid s.history (on_window k id grow s)
window_tells granted.Taken id grow s = silent s.history [] (Extended id grow ∷ s.history) (one_more s.history (Extended id grow) (λ i. refl) (λ i. refl)) nothing
window_tells granted.Ignored id grow s = quiet_tells s.history s (same s.history)
window_tells granted.Idle id grow s = break_tells 1 s.history s (same s.history)
window_tells granted.Zero id grow s = fail_at_tells id 1 s
window_tells granted.Over id grow s = fail_at_tells id 3 s

same_if : (b : Bool) (h : History) (x y : History × Bool) → Same h x.0 → Same h y.0 → Same h (cond b x y).0
same_if true h x y a c = a
same_if false h x y a c = c

shift_same : (p : Setting) (h : History) → Same h (shift_of p h).0
shift_same p h =
    same_if (eqb p.id 4) h (cond (can_shift p.value h) (Shifted p.value ∷ h, true) (h, false)) (h, true)
    (same_if (can_shift p.value h) h (Shifted p.value ∷ h, true) (h, false) (one_more h (Shifted p.value) (λ i. refl) (λ i. refl)) (same h)) (same h)

same_both : (h k m : History) → Same h k → Same k m → Same h m
same_both h k m a b = record { consumed = λ id. b.consumed id ∙ a.consumed id; arrived = λ id. b.arrived id ∙ a.arrived id }

shifts_same : (ps : List Setting) (h : History) → Same h (shifts ps h).0
shifts_same [] h = same h
shifts_same (p ∷ ps) h =
    same_if (shift_of p h).1 h (shifts ps (shift_of p h).0) (shift_of p h) (same_both h (shift_of p h).0 _ (shift_same p h) (shifts_same ps (shift_of p h).0)) (shift_same p h)

settings_tells : (ack : Bool) (pairs : List Setting) (s : State) → TellsDid s.history (on_settings ack pairs s)
settings_tells true pairs s = quiet_tells s.history s (same s.history)
settings_tells false pairs s =
    let x : History × Bool = shifts pairs s.history in
    let t : State = record s { history = x.0 } in
    told_if x.1 s.history _ (breaks 3 t) (silent s.history [] x.0 (shifts_same pairs s.history) nothing) (break_tells 3 s.history t (shifts_same pairs s.history))

ping_tells : (ack : Bool) (bytes : ℕ) (s : State) → TellsDid s.history (on_ping ack bytes s)
ping_tells true bytes s = quiet_tells s.history s (same s.history)
ping_tells false bytes s = silent s.history [] s.history (same s.history) nothing

does_tell : (f : Frame) (s : State) (events : List StreamEvent) (t : State) → Does f s events t → Tells s.history events t.history
does_tell (frame.Content id bytes len end) s events t is = told_is s.history _ events t is (data_tells (count_of id len s.history) id bytes len end s)
does_tell (frame.Headers id block end whole) s events t is = headers_tells (begun id s.history) id block end whole s events t is
does_tell (frame.Continuation id block whole) s events t is = continuation_tells s.block block whole s events t is
does_tell (frame.Priority id) s events t is = told_is s.history (quietly s) events t is (quiet_tells s.history s (same s.history))
does_tell (frame.Reset id code) s events t is = told_is s.history _ events t is (reset_tells id code s)
does_tell (frame.Settings ack pairs) s events t is = told_is s.history _ events t is (settings_tells ack pairs s)
does_tell (frame.Ping ack bytes) s events t is = told_is s.history _ events t is (ping_tells ack bytes s)
does_tell (frame.GoAway last code) s events t is = told_is s.history (quietly s) events t is (quiet_tells s.history s (same s.history))
does_tell (frame.Window id grow) s events t is = told_is s.history _ events t is (window_tells (grant_of id grow s.history) id grow s)
does_tell (frame.Unknown kind id) s events t is = told_is s.history (quietly s) events t is (quiet_tells s.history s (same s.history))
does_tell (frame.Fault code) s events t is = told_is s.history (breaks code s) events t is (break_tells code s.history s (same s.history))

told_in_both : (id : ℕ) (xs ys : List StreamEvent) → told_in id (xs ++ ys) ≡ told_in id xs + told_in id ys
told_in_both id [] ys = omega arith
told_in_both id (x ∷ xs) ys = let e = told_in_both id xs ys in omega arith

told_both : (h k m : History) (first later : List StreamEvent) → Tells h first k → Tells k later m → Tells h (first ++ later) m
told_both h k m first later a b = record {
  consumed = λ id. b.consumed id ∙ a.consumed id;
  arrived = λ id. let x = a.arrived id in let y = b.arrived id in let z = told_in_both id first later in omega arith;
}

pub all_tell : (fs : List Frame) (s : State) (events : List StreamEvent) (t : State) → DoAll fs s events t → Tells s.history events t.history
all_tell [] s events t is = told_is s.history (quietly s) events t is (quiet_tells s.history s (same s.history))
all_tell (f ∷ fs) s events t is =
    elim is [
      | inl x ↦ told_is s.history (quietly s) events t (x.1, x.2) (quiet_tells s.history s (same s.history))
      | inr x ↦ subst (λ (e : List StreamEvent). Tells s.history e t.history) (sym x.6)
          (told_both s.history x.2.history t.history x.1 x.3 (does_tell f s x.1 x.2 x.4) (all_tell fs x.2 x.3 t x.5))
    ]

-- so the DATA that a read tells isn't consumed when its frames were met
pub all_held : (fs : List Frame) (s : State) (events : List StreamEvent) (t : State) → DoAll fs s events t
    → ((id : ℕ) → total (consumed_on id) s.history ≤ total (arrived_on id) s.history) → AreHeld events t.history
all_held fs s events t is within =
    let tells = all_tell fs s events t is in
    record { each = λ id. let a = tells.consumed id in let b = tells.arrived id in let w = within id in omega arith }
