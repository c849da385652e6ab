-- In each state that reads and acts lead to, the frames that were put are read back.
use Rattle.std.proofs.Common.{◌≡◌, ℕ, ◌+◌, ◌^◌, ◌<◌, ◌≤◌, Bool, true, false, cond, eqb, ltb, List, [], ◌∷◌, ◌++◌, length, take, Option, Some, None, Result, Ok, Err, refl, sym, subst, inl, inr, arith}
use Rattle.std.specs.Prelude.{find, option_map, nat_le}
use Rattle.std.specs.List.{All, AllByRecursion}
use Rattle.std.proofs.lemmas.Bool.{eq-eqb, eqb-false, leb-true}
use Rattle.std.proofs.lemmas.List.{append-nil, length-take-le}
use Rattle.std.proofs.lemmas.List.Elements.{All-append, All-nil}
use Rattle.mq_frame.specs.Numbers.{max_frame_size}
use Rattle.mq_frame.specs.declared.frame.Frame.{Frame}
use Rattle.mq_frame.specs.declared.frame.Frame.TheVariants as frame
use Rattle.mq_frame.specs.declared.frame.Setting.{Setting}
use Rattle.mq_frame.specs.Stream.{FramesOf}
use Rattle.mq_frame.specs.Told.{IsFaultCode, IsStream, IsBounded, StaysBounded, FitsFields}
use Rattle.mq_frame.specs.Writing.{spelling_of, Fits, AreReadBack}
use Rattle.mq_hpack.specs.declared.field.Field.{Field}
use Rattle.mq_hpack.specs.declared.fault.HpackFault.{HpackFault}
use Rattle.mq_hpack.specs.declared.fault.HpackFault.TheVariants as fault
use Rattle.mq_hpack.specs.Table.{Table}
use Rattle.mq_hpack.specs.Writing.{block_text}
use Rattle.mq_streams.specs.History.{Event, History, Opened, TurnedAway, Consumed, GivenBack, Extended, Shifted, Sent, Finished, Dropped, total, arrived_on, arrived, consumed_on, consumed, highest, live, is_live, has_finished}
use Rattle.mq_streams.specs.Stand.{ConsumesWhatCame}
use Rattle.mq_streams.specs.Answers.{begun, is_idle, count_of, after_count, grant_of, next_update, to_give_back, connection_to_give_back, can_shift}
use Rattle.mq_streams.specs.declared.answers.Began.{Began}
use Rattle.mq_streams.specs.declared.answers.Began.TheVariants as began
use Rattle.mq_streams.specs.declared.answers.Counted.{Counted}
use Rattle.mq_streams.specs.declared.answers.Counted.TheVariants as counted
use Rattle.mq_streams.specs.declared.answers.Granted.{Granted}
use Rattle.mq_streams.specs.declared.answers.Granted.TheVariants as granted
use Rattle.mq_h2.specs.declared.block.OpenBlock.{OpenBlock}
use Rattle.mq_h2.specs.declared.event.StreamEvent.{StreamEvent}
use Rattle.mq_h2.specs.declared.event.StreamEvent.TheVariants.{Request, Malformed, Content, Reset, ConnectionError}
use Rattle.mq_h2.specs.Acts.{ending_text, ends, ends_if, FitsFrame, responds, data_room, sends, ends_stream, resets_stream, where_live, consumes, gives_back, updates, ends_act, writes}
use Rattle.mq_h2.specs.Codes.{max_block, fault_code, own_settings}
use Rattle.mq_h2.specs.Fields.{is_malformed}
use Rattle.mq_h2.specs.State.{State, new_state, put, owed}
use Rattle.mq_h2.specs.Frames.{Did, Is, quietly, breaks, turns_away, fails, finish, on_data, on_request, on_fields, on_block, OnSome, OnHeaders, OnContinuation, on_reset, on_window, shift_of, shifts, on_settings, on_ping, Does, DoAll}
use Rattle.mq_h2.specs.Reading.{is_withdrawn, drained_by, drained, ReadsWhile}
use Rattle.mq_h2.specs.Doing.{IsHeld, AreHeld}
use Rattle.mq_h2.specs.Reached.{IsReached, when_new, by_reading, by_responding, by_sending, by_ending, by_resetting, by_consuming, by_ending_act, by_writing}
use Rattle.mq_h2.specs.Laws.{SendsWithin, IsReadBack}
use Rattle.mq_h2.proofs.Draining.{held_first, held_next}
use Rattle.mq_h2.proofs.Telling.{all_held}
use Rattle.mq_h2.proofs.Flowing.{Flows, none_flow, flows_on, counts_flow}
use Rattle.mq_h2.proofs.Owing.{IsOwn, IsOwnText, first_text, text_more, text_written, own_goaway, own_reset, own_data, own_headers, own_acknowledgement, own_pong, own_window}
use Rattle.mq_h2.proofs.Streams.{BeginsStream, highest_small, live_streams, live_stream}

-- the stream of a header block is one
abbrev OnStream : Option OpenBlock → Type 0
OnStream None = Unit {0}
OnStream (Some b) = IsStream b.stream

-- what is kept by reads and acts, but for the bytes that were read
record AreSound (h : History) (b : Option OpenBlock) (out : List ℕ) : Type 0 where
  pub ids : AllByRecursion BeginsStream h
  pub flow : Flows h
  pub block : OnStream b
  pub text : IsOwnText out

abbrev Sound : State → Type 0
Sound s = AreSound s.history s.block s.out

-- Steps of it.

puts : (f : Frame) (h : History) (b : Option OpenBlock) (out : List ℕ) → AreSound h b out → IsOwn f → AreSound h b (out ++ spelling_of f)
puts f h b out is own = record { ids = is.ids; flow = is.flow; block = is.block; text = text_more out f is.text own }

happened : (e : Event) (h : History) (b : Option OpenBlock) (out : List ℕ) → AreSound h b out → BeginsStream e → Flows (e ∷ h) → AreSound (e ∷ h) b out
happened e h b out is begins flow = record { ids = (begins, is.ids); flow = flow; block = is.block; text = is.text }

without_data : (e : Event) (h : History) → arrived e ≡ 0 → ((id : ℕ) → arrived_on id e ≡ 0) → ConsumesWhatCame (e ∷ h) → Flows h → Flows (e ∷ h)
without_data e h none nowhere came flow = flows_on e h none nowhere came flow

dropped : (id : ℕ) (h : History) (b : Option OpenBlock) (out : List ℕ) → AreSound h b out → AreSound (Dropped id ∷ h) b out
dropped id h b out is = happened (Dropped id) h b out is tt (without_data (Dropped id) h refl (λ n. refl) is.flow.came is.flow)

holds_block : (c b : Option OpenBlock) (h : History) (out : List ℕ) → AreSound h b out → OnStream c → AreSound h c out
holds_block c b h out is on = record { ids = is.ids; flow = is.flow; block = on; text = is.text }

finished : (end : Bool) (id : ℕ) (h : History) (b : Option OpenBlock) (out : List ℕ) → AreSound h b out → AreSound (finish end id h) b out
finished true id h b out is = happened (Finished id) h b out is tt (without_data (Finished id) h refl (λ n. refl) is.flow.came is.flow)
finished false id h b out is = is

by_did : (did : Did) (events : List StreamEvent) (t : State) → Is did events t → Sound did.after → Sound t
by_did did events t is sound = subst (λ (u : State). Sound u) (sym is.1) sound

if_did : (b : Bool) (x y : Did) → Sound x.after → Sound y.after → Sound (cond b x y).after
if_did true x y a c = a
if_did false x y a c = c

-- Errors.

breaks_sound : (code : ℕ) (s : State) → code < 2 ^ 32 → Sound s → Sound (breaks code s).after
breaks_sound code s small is =
    holds_block None s.block s.history _
    (puts (frame.GoAway (highest s.history) code) s.history s.block s.out is (own_goaway (highest s.history) code (highest_small s.history is.ids) small)) tt

turns_away_sound : (id code : ℕ) (s : State) → IsStream id → code < 2 ^ 32 → Sound s → Sound (turns_away id code s).after
turns_away_sound id code s on small is = puts (frame.Reset id code) s.history s.block s.out is (own_reset id code on small)

fails_sound : (id code : ℕ) (s : State) → IsStream id → code < 2 ^ 32 → Sound s → Sound (fails id code s).after
fails_sound id code s on small is = dropped id s.history s.block _ (turns_away_sound id code s on small is)

apart : (id : ℕ) → id < 2 ^ 31 → eqb id 0 ≡ false → IsStream id
apart id small e = let some = eqb-false id 0 e in (omega (arith, some), small)

fails_at_by : (b : Bool) (id code : ℕ) (s : State) → eqb id 0 ≡ b → id < 2 ^ 31 → code < 2 ^ 32 → Sound s → Sound (cond b (breaks code s) (fails id code s)).after
fails_at_by true id code s e on small is = breaks_sound code s small is
fails_at_by false id code s e on small is = fails_sound id code s (apart id on e) small is

-- Frames.

data_sound : (k : Counted) (id : ℕ) (bytes : List ℕ) (len : ℕ) (end : Bool) (s : State) → count_of id len s.history ≡ k → IsStream id → Sound s
    → Sound (on_data k id bytes len end s).after
data_sound counted.Yes id bytes len end s e on is =
    let h = after_count counted.Yes id len s.history in
    finished end id h s.block s.out (happened _ s.history s.block s.out is tt (counts_flow counted.Yes id len s.history e is.flow))
data_sound counted.Ignored id bytes len end s e on is =
    happened _ s.history s.block s.out is tt (counts_flow counted.Ignored id len s.history e is.flow)
data_sound counted.Idle id bytes len end s e on is = breaks_sound 1 s (omega arith) is
data_sound counted.OverConnection id bytes len end s e on is = breaks_sound 3 s (omega arith) is
data_sound counted.OverStream id bytes len end s e on is =
    fails_sound id 3 (record s { history = after_count counted.OverStream id len s.history }) on (omega arith)
    (happened _ s.history s.block s.out is tt (counts_flow counted.OverStream id len s.history e is.flow))

request_sound : (fields : List Field) (b : OpenBlock) (s : State) → IsStream b.stream → Sound s → Sound (on_request fields b s).after
request_sound fields b s on is =
    if_did (is_malformed fields) (fails b.stream 1 s) (record { events = Request b.stream fields b.end ∷ []; after = record s { history = finish b.end b.stream s.history } })
    (fails_sound b.stream 1 s on (omega arith) is) (finished b.end b.stream s.history s.block s.out is)

fields_sound : (k : Began) (fields : List Field) (b : OpenBlock) (s : State) → IsStream b.stream → Sound s → Sound (on_fields k fields b s).after
fields_sound began.Live fields b s on is = if_did (is_live b.stream s.history) (on_request fields b s) (quietly s) (request_sound fields b s on is) is
fields_sound began.Refused fields b s on is = turns_away_sound b.stream 7 s on (omega arith) is
fields_sound began.Old fields b s on is =
    if_did (is_live b.stream s.history) (cond (has_finished b.stream s.history) (quietly s) (fails b.stream 1 s)) (quietly s)
    (if_did (has_finished b.stream s.history) (quietly s) (fails b.stream 1 s) is (fails_sound b.stream 1 s on (omega arith) is)) is
fields_sound began.BadId fields b s on is = is

fault_small : (f : HpackFault) → fault_code f < 2 ^ 32
fault_small fault.Index = omega arith
fault_small fault.Integer = omega arith
fault_small fault.Text = omega arith
fault_small fault.Update = omega arith
fault_small fault.TooLarge = omega arith
fault_small fault.NoMemory = omega arith

block_sound : (r : Result (List Field × Table) HpackFault) (b : OpenBlock) (s : State) → IsStream b.stream → Sound s → Sound (on_block r b s).after
block_sound (Ok x) b s on is =
    fields_sound b.began x.0 b (record s { table = x.1; block = None }) on (holds_block None s.block s.history s.out is tt)
block_sound (Err f) b s on is = breaks_sound (fault_code f) s (fault_small f) is

some_sound : (many whole : Bool) (b : OpenBlock) (s : State) (events : List StreamEvent) (t : State) → IsStream b.stream → Sound s → OnSome many whole b s events t → Sound t
some_sound true whole b s events t on is does = by_did (breaks 11 s) events t does (breaks_sound 11 s (omega arith) is)
some_sound false true b s events t on is does = by_did (on_block does.0 b s) events t does.2 (block_sound does.0 b s on is)
some_sound false false b s events t on is does =
    by_did (quietly (record s { block = Some b })) events t does (holds_block (Some b) s.block s.history s.out is on)

headers_sound : (k : Began) (id : ℕ) (block : List ℕ) (end whole : Bool) (s : State) (events : List StreamEvent) (t : State) → IsStream id → Sound s
    → OnHeaders k id block end whole s events t → Sound t
headers_sound began.BadId id block end whole s events t on is does = by_did (breaks 1 s) events t does (breaks_sound 1 s (omega arith) is)
headers_sound began.Live id block end whole s events t on is does =
    some_sound (ltb max_block (length block)) whole (record { stream = id; began = began.Live; end = end; bytes = block }) (record s { history = Opened id ∷ s.history }) events t on
    (happened (Opened id) s.history s.block s.out is on (without_data (Opened id) s.history refl (λ n. refl) is.flow.came is.flow)) does
headers_sound began.Refused id block end whole s events t on is does =
    some_sound (ltb max_block (length block)) whole (record { stream = id; began = began.Refused; end = end; bytes = block }) (record s { history = TurnedAway id ∷ s.history }) events t on
    (happened (TurnedAway id) s.history s.block s.out is on (without_data (TurnedAway id) s.history refl (λ n. refl) is.flow.came is.flow)) does
headers_sound began.Old id block end whole s events t on is does =
    some_sound (ltb max_block (length block)) whole (record { stream = id; began = began.Old; end = end; bytes = block }) s events t on is does

continuation_sound : (b : Option OpenBlock) (block : List ℕ) (whole : Bool) (s : State) (events : List StreamEvent) (t : State) → OnStream b → Sound s
    → OnContinuation b block whole s events t → Sound t
continuation_sound None block whole s events t on is does = by_did (breaks 1 s) events t does (breaks_sound 1 s (omega arith) is)
continuation_sound (Some b) block whole s events t on is does =
    some_sound (ltb max_block (length (b.bytes ++ block))) whole (record b { bytes = b.bytes ++ block }) s events t on is does

reset_sound : (id code : ℕ) (s : State) → Sound s → Sound (on_reset id code s).after
reset_sound id code s is =
    let gone : Did = record { events = Reset id code ∷ []; after = record s { history = Dropped id ∷ s.history } } in
    if_did (is_idle id s.history) (breaks 1 s) (cond (is_live id s.history) gone (quietly s)) (breaks_sound 1 s (omega arith) is)
    (if_did (is_live id s.history) gone (quietly s) (dropped id s.history s.block s.out is) is)

window_sound : (k : Granted) (id grow : ℕ) (s : State) → id < 2 ^ 31 → Sound s → Sound (on_window k id grow s).after
window_sound granted.Taken id grow s on is =
    happened (Extended id grow) s.history s.block s.out is tt (without_data (Extended id grow) s.history refl (λ n. refl) is.flow.came is.flow)
window_sound granted.Ignored id grow s on is = is
window_sound granted.Idle id grow s on is = breaks_sound 1 s (omega arith) is
window_sound granted.Zero id grow s on is = fails_at_by (eqb id 0) id 1 s refl on (omega arith) is
window_sound granted.Over id grow s on is = fails_at_by (eqb id 0) id 3 s refl on (omega arith) is

-- the settings
abbrev Shifts : History × Bool → Option OpenBlock → List ℕ → Type 0
Shifts x b out = AreSound x.0 b out

shift_if : (can there : Bool) (value : ℕ) (h : History) (b : Option OpenBlock) (out : List ℕ) → AreSound h b out
    → Shifts (cond there (cond can (Shifted value ∷ h, true) (h, false)) (h, true)) b out
shift_if true true value h b out is = happened (Shifted value) h b out is tt (without_data (Shifted value) h refl (λ n. refl) is.flow.came is.flow)
shift_if false true value h b out is = is
shift_if true false value h b out is = is
shift_if false false value h b out is = is

one_shift : (p : Setting) (h : History) (b : Option OpenBlock) (out : List ℕ) → AreSound h b out → Shifts (shift_of p h) b out
one_shift p h b out is = shift_if (can_shift p.value h) (eqb p.id 4) p.value h b out is

either : (t : Bool) (x y : History × Bool) (b : Option OpenBlock) (out : List ℕ) → Shifts x b out → Shifts y b out → Shifts (cond t x y) b out
either true x y b out a c = a
either false x y b out a c = c

shifts_sound : (ps : List Setting) (h : History) (b : Option OpenBlock) (out : List ℕ) → AreSound h b out → Shifts (shifts ps h) b out
shifts_sound [] h b out is = is
shifts_sound (p ∷ ps) h b out is =
    let x : History × Bool = shift_of p h in
    let first = one_shift p h b out is in
    either x.1 (shifts ps x.0) x b out (shifts_sound ps x.0 b out first) first

settings_sound : (ack : Bool) (pairs : List Setting) (s : State) → Sound s → Sound (on_settings ack pairs s).after
settings_sound true pairs s is = is
settings_sound false pairs s is =
    let x : History × Bool = shifts pairs s.history in
    let t : State = record s { history = x.0 } in
    let shifted : Sound t = shifts_sound pairs s.history s.block s.out is in
    if_did x.1 (quietly (put (spelling_of (frame.Settings true [])) t)) (breaks 3 t)
    (puts (frame.Settings true []) x.0 s.block s.out shifted own_acknowledgement) (breaks_sound 3 t (omega arith) shifted)

ping_sound : (ack : Bool) (bytes : ℕ) (s : State) → bytes < 2 ^ 64 → Sound s → Sound (on_ping ack bytes s).after
ping_sound true bytes s fits is = is
ping_sound false bytes s fits is = puts (frame.Ping true bytes) s.history s.block s.out is (own_pong bytes fits)

code_small : (code : ℕ) → IsFaultCode code → code < 2 ^ 32
code_small code (inl e) = omega (arith, e)
code_small code (inr (inl e)) = omega (arith, e)
code_small code (inr (inr e)) = omega (arith, e)

does_sound : (f : Frame) (s : State) (events : List StreamEvent) (t : State) → IsBounded f → Fits f → Sound s → Does f s events t → Sound t
does_sound (frame.Content id bytes len end) s events t bounded fits is does =
    by_did _ events t does (data_sound (count_of id len s.history) id bytes len end s refl bounded.0 is)
does_sound (frame.Headers id block end whole) s events t bounded fits is does =
    headers_sound (begun id s.history) id block end whole s events t bounded.0 is does
does_sound (frame.Continuation id block whole) s events t bounded fits is does = continuation_sound s.block block whole s events t is.block is does
does_sound (frame.Priority id) s events t bounded fits is does = by_did (quietly s) events t does is
does_sound (frame.Reset id code) s events t bounded fits is does = by_did _ events t does (reset_sound id code s is)
does_sound (frame.Settings ack pairs) s events t bounded fits is does = by_did _ events t does (settings_sound ack pairs s is)
does_sound (frame.Ping ack bytes) s events t bounded fits is does = by_did _ events t does (ping_sound ack bytes s fits is)
does_sound (frame.GoAway last code) s events t bounded fits is does = by_did (quietly s) events t does is
does_sound (frame.Window id grow) s events t bounded fits is does =
    by_did _ events t does (window_sound (grant_of id grow s.history) id grow s bounded.0 is)
does_sound (frame.Unknown kind id) s events t bounded fits is does = by_did (quietly s) events t does is
does_sound (frame.Fault code) s events t bounded fits is does = by_did (breaks code s) events t does (breaks_sound code s (code_small code bounded) is)

all_sound : (fs : List Frame) (s : State) (events : List StreamEvent) (t : State) → AllByRecursion IsBounded fs → AllByRecursion Fits fs → Sound s → DoAll fs s events t → Sound t
all_sound [] s events t bounded fits is does = by_did (quietly s) events t does is
all_sound (f ∷ fs) s events t bounded fits is does =
    elim does [
      | inl x ↦ by_did (quietly s) events t (x.1, x.2) is
      | inr x ↦ all_sound fs x.2 x.3 t bounded.1 fits.1 (does_sound f s x.1 x.2 bounded.0 fits.0 is x.4) x.5
    ]

-- what was read is bytes
abbrev AreBytes : List ℕ → Type 0
AreBytes bytes = All (λ b. b < 2 ^ 8) bytes

later_all : (P : Frame → Type 0) (first later : List Frame) → AllByRecursion P (first ++ later) → AllByRecursion P later
later_all P [] later all = all
later_all P (f ∷ first) later all = later_all P first later all.1

-- DATA of withdrawn requests is consumed
consumed_if : (w : Bool) (s len : ℕ) (h : History) (b : Option OpenBlock) (out : List ℕ) → AreSound h b out → total (consumed_on s) h + len ≤ total (arrived_on s) h
    → AreSound (cond w (Consumed s len ∷ h) h) b out
consumed_if true s len h b out is within =
    happened (Consumed s len) h b out is tt (without_data (Consumed s len) h refl (λ n. refl) (within, is.flow.came) is.flow)
consumed_if false s len h b out is within = is

held_here : (s : ℕ) (bytes : List ℕ) (len : ℕ) (end : Bool) (h : History) → IsHeld (Content s bytes len end) h → total (consumed_on s) h + len ≤ total (arrived_on s) h
held_here s bytes len end h held =
    let at : total (consumed_on s) h + cond (eqb s s) len 0 ≤ total (arrived_on s) h = held s in
    subst (λ (b : Bool). total (consumed_on s) h + cond b len 0 ≤ total (arrived_on s) h) (eq-eqb s s refl) at

drained_one : (all : List StreamEvent) (e : StreamEvent) (h : History) (b : Option OpenBlock) (out : List ℕ) → AreSound h b out → IsHeld e h → AreSound (drained_by all e h) b out
drained_one all (Request s fields end) h b out is held = is
drained_one all (Malformed s code) h b out is held = is
drained_one all (Content s bytes len end) h b out is held = consumed_if (is_withdrawn all s) s len h b out is (held_here s bytes len end h held)
drained_one all (Reset s code) h b out is held = is
drained_one all (ConnectionError code) h b out is held = is

drained_sound : (all es : List StreamEvent) (h : History) (b : Option OpenBlock) (out : List ℕ) → AreSound h b out → AreHeld es h → AreSound (drained all es h) b out
drained_sound all [] h b out is held = is
drained_sound all (e ∷ es) h b out is held =
    drained_sound all es (drained_by all e h) b out (drained_one all e h b out is (held_first e es h held)) (held_next all e es h held)

-- The other acts.

ending_sound : (done : Bool) (id : ℕ) (h : History) (b : Option OpenBlock) (out : List ℕ) → IsStream id → AreSound h b out → AreSound h b (out ++ ending_text done id)
ending_sound true id h b out on is =
    record { ids = is.ids; flow = is.flow; block = is.block; text = subst (λ (bytes : List ℕ). IsOwnText bytes) (sym (append-nil out)) is.text }
ending_sound false id h b out on is = puts (frame.Reset id 0) h b out is (own_reset id 0 on (omega arith))

ends_sound : (id : ℕ) (s : State) → IsStream id → Sound s → Sound (ends id s)
ends_sound id s on is = dropped id s.history s.block _ (ending_sound (has_finished id s.history) id s.history s.block s.out on is)

ends_if_sound : (end : Bool) (id : ℕ) (s : State) → IsStream id → Sound s → Sound (ends_if end id s)
ends_if_sound true id s on is = ends_sound id s on is
ends_if_sound false id s on is = is

respond_sound : (id : ℕ) (fields : List Field) (end : Bool) (s : State) → IsStream id → FitsFrame fields s → Sound s → Sound (responds id fields end s)
respond_sound id fields end s on few is =
    let block : List ℕ = block_text s.owes_limit fields in
    let m : State = record s { out = s.out ++ spelling_of (frame.Headers id block end true); owes_limit = false } in
    ends_if_sound end id m on (puts (frame.Headers id block end true) s.history s.block s.out is (own_headers id block end on few))

if_sound : (b : Bool) (x y : State) → (b ≡ true → Sound x) → Sound y → Sound (cond b x y)
if_sound true x y a c = a refl
if_sound false x y a c = c

send_sound : (within : SendsWithin) (id : ℕ) (bytes : List ℕ) (count : ℕ) (s : State) → IsStream id → Sound s → count ≡ data_room id (length bytes) s → Sound (sends id (take count bytes) s)
send_sound within id bytes count s on is room =
    let rooms = within id (length bytes) s in
    let piece : List ℕ = take count bytes in
    let fits : count ≤ length bytes = subst (λ (n : ℕ). n ≤ length bytes) (sym room) rooms.3 in
    let small : count ≤ max_frame_size = subst (λ (n : ℕ). n ≤ max_frame_size) (sym room) rooms.2 in
    let len : length piece ≡ count = length-take-le count bytes fits in
    let few : length piece ≤ max_frame_size = omega (arith, len, small) in
    let f : Frame = frame.Content id piece (length piece) false in
    let put : AreSound s.history s.block (s.out ++ spelling_of f) = puts f s.history s.block s.out is (own_data id piece false on few) in
    if_sound (ltb 0 (length piece)) _ s
    (λ some. happened (Sent id (length piece)) s.history s.block _ put tt (without_data (Sent id (length piece)) s.history refl (λ n. refl) is.flow.came is.flow)) is

end_sound : (id : ℕ) (s : State) → Sound s → Sound (where_live id (ends_stream id) s)
end_sound id s is =
    if_sound (is_live id s.history) (ends_stream id s) s
    (λ lives.
    let on = live_stream id s.history is.ids lives in
    ends_sound id (put (spelling_of (frame.Content id [] 0 true)) s) on (puts (frame.Content id [] 0 true) s.history s.block s.out is (own_data id [] true on (omega arith)))) is

resets_sound : (id code : ℕ) (s : State) → code < 2 ^ 32 → Sound s → Sound (where_live id (resets_stream id code) s)
resets_sound id code s small is =
    if_sound (is_live id s.history) (resets_stream id code s) s
    (λ lives. fails_sound id code s (live_stream id s.history is.ids lives) small is) is

consumes_sound : (id count : ℕ) (s : State) → total (consumed_on id) s.history + count ≤ total (arrived_on id) s.history → Sound s → Sound (consumes id count s)
consumes_sound id count s within is = consumed_if true id count s.history s.block s.out is within

-- the next WINDOW_UPDATE
abbrev IsSmall : Option (ℕ × ℕ) → Type 0
IsSmall None = Unit {0}
IsSmall (Some update) = (update.0 < 2 ^ 31) × (0 < update.1) × (update.1 < 2 ^ 31)

abbrev Within : History → Type 0
Within h = (total consumed h ≤ total arrived h) × ((id : ℕ) → total (consumed_on id) h ≤ total (arrived_on id) h)

some_due : (n : ℕ) → nat_le 16384 n ≡ true → 0 < n
some_due n e = let x = leb-true 16384 n e in omega (arith, x)

found_by : (b : Bool) (id : ℕ) (h : History) (rest : Option ℕ) → nat_le 16384 (to_give_back id h) ≡ b → IsStream id → Flows h → Within h
    → IsSmall (option_map (λ i. (i, to_give_back i h)) rest) → IsSmall (option_map (λ i. (i, to_give_back i h)) (cond b (Some id) rest))
found_by true id h rest e on flow within small = (on.1, some_due (to_give_back id h) e, omega (arith, flow.each id, within.1 id))
found_by false id h rest e on flow within small = small

found_small : (ids : List ℕ) (h : History) → AllByRecursion IsStream ids → Flows h → Within h
    → IsSmall (option_map (λ i. (i, to_give_back i h)) (find (λ i. nat_le 16384 (to_give_back i h)) ids))
found_small [] h all flow within = tt
found_small (id ∷ ids) h all flow within = found_by (nat_le 16384 (to_give_back id h)) id h _ refl all.0 flow within (found_small ids h all.1 flow within)

update_by : (b : Bool) (h : History) (rest : Option (ℕ × ℕ)) → nat_le 16384 (connection_to_give_back h) ≡ b → Flows h → Within h → IsSmall rest
    → IsSmall (cond b (Some (0, connection_to_give_back h)) rest)
update_by true h rest e flow within small = (omega arith, some_due (connection_to_give_back h) e, omega (arith, flow.all, within.0))
update_by false h rest e flow within small = small

update_small : (h : History) → AllByRecursion BeginsStream h → Flows h → Within h → IsSmall (next_update h)
update_small h ids flow within =
    update_by (nat_le 16384 (connection_to_give_back h)) h _ refl flow within (found_small (live h) h (live_streams h ids) flow within)

back_sound : (update : Option (ℕ × ℕ)) (s : State) → IsSmall update → Sound s → Sound (gives_back update s)
back_sound None s small is = is
back_sound (Some update) s small is =
    happened (GivenBack update.0 update.1) s.history s.block _
    (puts (frame.Window update.0 update.1) s.history s.block s.out is (own_window update.0 update.1 small.0 small.1 small.2)) tt
    (without_data (GivenBack update.0 update.1) s.history refl (λ n. refl) is.flow.came is.flow)

updates_sound : (bytes : List ℕ) (s : State) → IsSmall (next_update s.history) → Sound s → Sound (updates bytes s)
updates_sound [] s small is = back_sound (next_update s.history) s small is
updates_sound (b ∷ bs) s small is = is

new_sound : Sound new_state
new_sound = record { ids = tt; flow = none_flow; block = tt; text = first_text }

-- All states.

record IsSound (s : State) : Type 0 where
  pub bytes : AreBytes s.read
  pub sound : Sound s

-- acts read nothing
acted : (s t : State) → t.read ≡ s.read → IsSound s → Sound t → IsSound t
acted s t same is sound = record { bytes = subst (λ (bytes : List ℕ). AreBytes bytes) (sym same) is.bytes; sound = sound }

read_if : (b : Bool) (s x y : State) → x.read ≡ s.read → y.read ≡ s.read → (cond b x y).read ≡ s.read
read_if true s x y a c = a
read_if false s x y a c = c

ends_if_read : (end : Bool) (id : ℕ) (s : State) → (ends_if end id s).read ≡ s.read
ends_if_read true id s = refl
ends_if_read false id s = refl

back_read : (update : Option (ℕ × ℕ)) (s : State) → (gives_back update s).read ≡ s.read
back_read None s = refl
back_read (Some update) s = refl

updates_read : (bytes : List ℕ) (s : State) → (updates bytes s).read ≡ s.read
updates_read [] s = back_read (next_update s.history) s
updates_read (b ∷ bs) s = refl

module _ (bounds : StaysBounded) (fields : FitsFields) (all_within : (h : History) → ConsumesWhatCame h → Within h) (sends_within : SendsWithin) where
  while_sound : (ended : Bool) (s : State) (piece : List ℕ) (events : List StreamEvent) (t : State) → AreBytes piece → IsSound s → ReadsWhile ended s piece events t → IsSound t
  while_sound true s piece events t bytes is does = subst (λ (u : State). IsSound u) (sym does.1) is
  while_sound false s piece events t bytes is does =
      let all : AreBytes (s.read ++ piece) = All-append (λ b. b < 2 ^ 8) s.read piece is.bytes bytes in
      let frames : List Frame = does.earlier ++ does.frames in
      let bounded = later_all (λ f. IsBounded f) does.earlier does.frames (bounds (s.read ++ piece) frames does.are) in
      let fit = later_all (λ f. Fits f) does.earlier does.frames (fields (s.read ++ piece) frames all does.are) in
      let met = all_sound does.frames s does.told does.met bounded fit is.sound does.did in
      let held = all_held does.frames s does.told does.met does.did (all_within s.history is.sound.flow.came).1 in
      subst (λ (u : State). IsSound u) (sym does.state_is) (record {
        bytes = all;
        sound = drained_sound does.told does.told does.met.history does.met.block does.met.out met held;
      })

  reached_sound : {s : State} → IsReached s → IsSound s
  reached_sound when_new = record { bytes = All-nil (λ b. b < 2 ^ 8); sound = new_sound }
  reached_sound (by_reading s piece events t is bytes does) = while_sound s.ended s piece events t bytes (reached_sound is) does
  reached_sound (by_responding id asked end s is lives few) =
      let was = reached_sound is in
      let m : State = record s { out = s.out ++ spelling_of (frame.Headers id (block_text s.owes_limit asked) end true); owes_limit = false } in
      acted s (responds id asked end s) (ends_if_read end id m) was (respond_sound id asked end s (live_stream id s.history was.sound.ids lives) few was.sound)
  reached_sound (by_sending id bytes count s is room) =
      let was = reached_sound is in
      let t : State = sends id (take count bytes) s in
      acted s (where_live id (sends id (take count bytes)) s)
      (read_if (is_live id s.history) s t s (read_if (ltb 0 (length (take count bytes))) s _ s refl refl) refl) was
      (if_sound (is_live id s.history) t s (λ lives. send_sound sends_within id bytes count s (live_stream id s.history was.sound.ids lives) was.sound room) was.sound)
  reached_sound (by_ending id s is) =
      let was = reached_sound is in
      acted s (where_live id (ends_stream id) s) (read_if (is_live id s.history) s (ends_stream id s) s refl refl) was (end_sound id s was.sound)
  reached_sound (by_resetting id code s is small) =
      let was = reached_sound is in
      acted s (where_live id (resets_stream id code) s) (read_if (is_live id s.history) s (resets_stream id code s) s refl refl) was (resets_sound id code s small was.sound)
  reached_sound (by_consuming id count s is within) =
      let was = reached_sound is in
      acted s (consumes id count s) refl was (consumes_sound id count s within was.sound)
  reached_sound (by_ending_act s is) =
      let was = reached_sound is in
      let small = update_small s.history was.sound.ids was.sound.flow (all_within s.history was.sound.flow.came) in
      acted s (ends_act s) (updates_read (owed s) s) was (updates_sound (owed s) s small was.sound)
  reached_sound (by_writing count s is within) = let was = reached_sound is in acted s (writes count s) refl was was.sound

  pub reads_back : AreReadBack → (s : State) → IsReached s → IsReadBack s
  reads_back back s reached =
      let text = (reached_sound reached).sound.text in
      let frames : List Frame = frame.Settings false own_settings ∷ text.later in
      let written = text_written s.out text in
      record { frames = frames; put = text.put; written = written; read = subst (λ (bytes : List ℕ). FramesOf bytes frames) (sym text.put) (back frames written) }
